-- For the clauses of `FileMap::{get, set}`, and `ok` and `others` of `save` of a `MemoryFolder` and a `SureFolder`: the files of a folder in memory.
use Rattle.std.proofs.Common.{◌≡◌, ◌≢◌, ℕ, List, [], ◌∷◌, refl, sym, ap, ◌∙◌, cond, subst}
use Rattle.std.specs.Prelude.{Bool, true, false, Option, Some, option_map, map, String, Vec, string_bytes, bytes_eq}
use Rattle.std.specs.Ordering.{nat_cmp, is_eq}
use Rattle.std.specs.Bool.{Decides}
use Rattle.std.specs.Cmp.Lexicographic.{slice_cmp, nat_list_cmp_total}
use Rattle.std.specs.FinMap.{find, insert, get-from_entries, get-insert, same_map, slice_cmp-IsAntisymmetric, nat_cmp-IsAntisymmetric}
use Rattle.std.specs.String.{string_cmp}
use Rattle.std.specs.BTreeMap.{BTreeMap, get_by_text, Updates}
use Rattle.std.specs.Map.{lookup}
use Rattle.std.specs.declared.alloc.Global.{Global}
use Rattle.std.proofs.lemmas.Bool.{false≢true}
use Rattle.std.proofs.lemmas.Slice.Eq.{bytes_eq-Decides}
use Rattle.std.proofs.lemmas.Map.Text.{btree_map_updates_text, is_eq-slice_cmp}
use Rattle.vg_outside.specs.Files.{Files, file, SameElsewhere}
use Rattle.vg_outside.specs.Memory.{files_of}

-- a look-up by bytes finds the same entry among the names' bytes and among the names
find_text : (es : List (String Global × Vec ℕ Global)) (q : List ℕ)
    → find (slice_cmp nat_cmp) q (map {B = List ℕ × List ℕ} (λ e. (string_bytes e.0, e.1.items)) es)
    ≡ option_map (λ v. v.items) (lookup (λ k. is_eq (slice_cmp nat_cmp q (string_bytes k))) es)
find_text [] q = refl
find_text (e ∷ es) q =
    elim (is_eq (slice_cmp nat_cmp q (string_bytes e.0)))
    as (λ b. cond b (Some e.1.items) (find (slice_cmp nat_cmp) q (map {B = List ℕ × List ℕ} (λ x. (string_bytes x.0, x.1.items)) es))
    ≡ option_map (λ v. v.items) (cond b (Some e.1) (lookup (λ k. is_eq (slice_cmp nat_cmp q (string_bytes k))) es))) [
      | true ↦ refl
      | false ↦ find_text es q
    ]

-- a file is what the map has at its name
pub file_of : (m : BTreeMap (String Global) (Vec ℕ Global)) (q : List ℕ) → file (files_of m) q ≡ option_map (λ v. v.items) (get_by_text m q)
file_of m q = get-from_entries nat_list_cmp_total _ q ∙ find_text m.entries q

-- a test that decides a fact is true where it holds
true_where : (b : Bool) (P : Type 0) → Decides b P → P → b ≡ true
true_where b P d p = d.1 p

-- and false where it doesn't
false_where : (b : Bool) (P : Type 0) → Decides b P → (P → ⊥) → b ≡ false
false_where true P d differs = absurd (differs (d.0 refl))
false_where false P d differs = refl

-- two tests of an equation, read either way, are the same
same_tests : (a b : List ℕ) (x y : Bool) → Decides x (a ≡ b) → Decides y (b ≡ a) → x ≡ y
same_tests a b true y d e = sym (e.1 (sym (d.0 refl)))
same_tests a b false y d e = sym (false_where y (b ≡ a) e (λ p. false≢true (d.1 (sym p))))

-- two names are compared alike in either order
bytes_eq-swap : (a b : List ℕ) → bytes_eq a b ≡ bytes_eq b a
bytes_eq-swap a b = same_tests a b (bytes_eq a b) (bytes_eq b a) (bytes_eq-Decides a b) (bytes_eq-Decides b a)

-- after a write a name has the new bytes
pub file-insert_same : (files : Files) (name bytes : List ℕ) → file (insert files name bytes) name ≡ Some bytes
file-insert_same files name bytes =
    get-insert nat_list_cmp_total files name bytes name
    ∙ ap (λ b. cond b (Some bytes) (file files name)) (is_eq-slice_cmp name name ∙ true_where _ (name ≡ name) (bytes_eq-Decides name name) refl)

-- and every other name has the old ones
pub file-insert_other : (files : Files) (name bytes other : List ℕ) → other ≢ name → file (insert files name bytes) other ≡ file files other
file-insert_other files name bytes other apart =
    get-insert nat_list_cmp_total files name bytes other
    ∙ ap (λ b. cond b (Some bytes) (file files other)) (is_eq-slice_cmp other name ∙ false_where _ (other ≡ name) (bytes_eq-Decides other name) apart)

-- where one name has these bytes and all others are as before, each name is as after the write, by whether it is the one
saved_at : (old new : Files) (name bytes q : List ℕ) (b : Bool) → Decides b (q ≡ name) → file new name ≡ Some bytes → SameElsewhere (Some old) (Some new) name
    → file new q ≡ file (insert old name bytes) q
saved_at old new name bytes q true d has others = subst (λ n. file new n ≡ file (insert old name bytes) n) (sym (d.0 refl)) (has ∙ sym (file-insert_same old name bytes))
saved_at old new name bytes q false d has others = others q (λ e. false≢true (d.1 e)) ∙ sym (file-insert_other old name bytes q (λ e. false≢true (d.1 e)))

-- files that have these bytes at a name, and all else as before, are those before with the file written
pub saved_is_insert : (old new : Files) (name bytes : List ℕ) → file new name ≡ Some bytes → SameElsewhere (Some old) (Some new) name → new ≡ insert old name bytes
saved_is_insert old new name bytes has others =
    same_map nat_list_cmp_total (slice_cmp-IsAntisymmetric nat_cmp-IsAntisymmetric) new (insert old name bytes)
    (λ q. saved_at old new name bytes q (bytes_eq q name) (bytes_eq-Decides q name) has others)

-- the bytes of a value chosen by a test are chosen by it
items-cond : (b : Bool) (value : Vec ℕ Global) (o : Option (Vec ℕ Global)) → option_map (λ v. v.items) (cond b (Some value) o) ≡ cond b (Some value.items) (option_map (λ v. v.items) o)
items-cond true value o = refl
items-cond false value o = refl

-- a write in the map is a write among the files
pub files_of-updates : (m n : BTreeMap (String Global) (Vec ℕ Global)) (key : String Global) (value : Vec ℕ Global)
    → Updates string_cmp m n key (Some value) → files_of n ≡ insert (files_of m) (string_bytes key) value.items
files_of-updates m n key value u = same_map nat_list_cmp_total (slice_cmp-IsAntisymmetric nat_cmp-IsAntisymmetric) _ _ (λ q.
    file_of n q
    ∙ (ap (option_map (λ v. v.items)) (btree_map_updates_text (string_bytes key) m n (Some value) u q)
    ∙ (items-cond (bytes_eq (string_bytes key) q) value (get_by_text m q)
    ∙ (ap (λ b. cond b (Some value.items) (option_map (λ v. v.items) (get_by_text m q))) (bytes_eq-swap (string_bytes key) q ∙ sym (is_eq-slice_cmp q (string_bytes key)))
    ∙ (ap (λ o. cond (is_eq (slice_cmp nat_cmp q (string_bytes key))) (Some value.items) o) (sym (file_of m q))
    ∙ sym (get-insert nat_list_cmp_total (files_of m) (string_bytes key) value.items q))))))
