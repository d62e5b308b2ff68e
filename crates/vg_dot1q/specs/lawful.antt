-- Why the visits of the VLAN kinds and of cross-connects keep the laws of visits. These lemmas stand here, since the set of kinds gives
-- them as a member, and members cite of their own crate these files alone.
pub mod VisitCases
pub mod TagLemmas
pub mod KindLaws
