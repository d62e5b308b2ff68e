-- The kinds of nodes that calls run with.
use Rattle.vg_model.specs.Visit.{Visit, ip4_visit}
use Rattle.vg_ip6.specs.Visit.{ip6_visit}
use Rattle.vg_dot1q.specs.Visit.{dot1q_visit}

-- the visits of all kinds: those of the VLAN kinds and of cross-connects, around those of the IPv6 kinds, around those of the Ethernet and
-- IPv4 kinds
abbrev pub vgd_visit : Visit
vgd_visit = dot1q_visit (ip6_visit ip4_visit)
