pub mod HeadLemmas
pub mod TagExamples
