-- How the lines that set routes are kept.
use Rattle.std.specs.Prelude.{◌≡◌, ℕ, List, unwrap_or, if◌then◌else◌}
use Rattle.std.specs.declared.cmp.Ordering.{Ordering}
use Rattle.std.specs.Ordering.{nat_cmp, ordering_then}
use Rattle.std.specs.BTreeMap as maps
use Rattle.vg_model.specs.declared.edits.EditLine.{EditLine}
use Rattle.vg_model.specs.declared.routes.Prefix.{Prefix}
use Rattle.vg_model.specs.declared.routes.Prefix6.{Prefix6}
use Rattle.vg_model.specs.Route.{same_prefix, same_prefix6}
use Rattle.vg_script.specs.declared.scripts.Script.{Script}
use Rattle.vg_ways.specs.declared.lines.RouteLines.{RouteLines}
use Rattle.vg_ways.specs.Lines.{sets_route, sets_route6, line_after, route_line, route6_line}

-- the order of the keys
abbrev pub key_cmp : ℕ × ℕ → ℕ × ℕ → Ordering
key_cmp a b = ordering_then (nat_cmp a.0 b.0) (nat_cmp a.1 b.1)

-- the line of a prefix; 0 where none is kept
abbrev pub line_in : RouteLines → Prefix → ℕ
line_in lines prefix = unwrap_or (maps.get key_cmp lines.lines (prefix.addr, prefix.len)) 0

abbrev pub line6_in : RouteLines → Prefix6 → ℕ
line6_in lines prefix = unwrap_or (maps.get key_cmp lines.lines6 (prefix.addr, prefix.len)) 0

-- the line of one IPv4 prefix is this one, and all others are as before
pub record HasLine (set : Prefix) (set_in : ℕ) (old new : RouteLines) : Type 0 where
  pub line : (prefix : Prefix) → line_in new prefix ≡ (if same_prefix set prefix then set_in else line_in old prefix)
  pub line6 : (prefix : Prefix6) → line6_in new prefix ≡ line6_in old prefix

-- the same for IPv6
pub record HasLine6 (set : Prefix6) (set_in : ℕ) (old new : RouteLines) : Type 0 where
  pub line : (prefix : Prefix) → line_in new prefix ≡ line_in old prefix
  pub line6 : (prefix : Prefix6) → line6_in new prefix ≡ (if same_prefix6 set prefix then set_in else line6_in old prefix)

-- the lines after these edits
pub record AreAfter (edits : List EditLine) (old new : RouteLines) : Type 0 where
  pub line : (prefix : Prefix) → line_in new prefix ≡ line_after (sets_route prefix) (line_in old prefix) edits
  pub line6 : (prefix : Prefix6) → line6_in new prefix ≡ line_after (sets_route6 prefix) (line6_in old prefix) edits

-- the lines are those of a generation
pub record AreLinesOf (script : Script) (generation : ℕ) (lines : RouteLines) : Type 0 where
  pub line : (prefix : Prefix) → line_in lines prefix ≡ route_line script generation prefix
  pub line6 : (prefix : Prefix6) → line6_in lines prefix ≡ route6_line script generation prefix
