-- What contracts see of a book.
use Rattle.std.specs.Prelude.{◌≡◌, ℕ, ◌≤◌, List, length, zip}
use Rattle.vg_model.specs.Graph.{Graph}
use Rattle.vg_plan.specs.declared.books.Book.TheInside.{Inside}

-- the generations' graphs, each with its limit
abbrev pub windows_of : Inside → List (Graph × ℕ)
windows_of book = zip book.plan.value.graphs book.limits.items

-- what holds of a book's parts: each generation has its limit
pub record IsBook (book : Inside) : Type 0 where
  pub each : length book.limits.items ≡ length book.plan.value.graphs
  pub few : length book.limits.items ≤ 1000
