-- For `printed_is_read_back`: a plain text, read line by line.
use Rattle.std.proofs.Common.{◌≡◌, ℕ, suc, ◌+◌, ◌≤◌, Bool, true, false, not, List, [], ◌∷◌, ◌++◌, length, map, Some, Ok, refl, sym, ap, ◌∙◌, if◌then◌else◌, append_assoc, append-nil, length-append, arith}
use Rattle.std.proofs.lemmas.Bool.{le-ltb}
use Rattle.std.proofs.lemmas.List.Elements.{recursion_from_All}
use Rattle.std.proofs.Math.ListN.{length-map}
use Rattle.std.specs.List.{AllByRecursion, list_all}
use Rattle.std.specs.Prelude.{codes, decimal, flat_map, fold}
use Rattle.vg_model.specs.declared.edits.Edit.{Edit}
use Rattle.vg_model.specs.declared.edits.Edit.TheVariants as edits
use Rattle.vg_model.specs.declared.edits.EditLine.{EditLine}
use Rattle.vg_model.specs.declared.kinds.Kind.{Kind}
use Rattle.vg_model.specs.declared.names.Mac.{Mac}
use Rattle.vg_model.specs.declared.routes.Prefix.{Prefix}
use Rattle.vg_model.specs.declared.routes.Prefix6.{Prefix6}
use Rattle.vg_model.specs.declared.routes.RouteWord.{RouteWord}
use Rattle.vg_model.specs.declared.routes.RouteWord.TheVariants as targets
use Rattle.vg_script.specs.declared.errors.ScriptCause.TheVariants as causes
use Rattle.vg_script.specs.declared.scripts.Script.{Script}
use Rattle.vg_script.specs.declared.scripts.Block.{Block}
use Rattle.vg_script.specs.declared.scripts.Block.TheVariants as blocks
use Rattle.vg_model.specs.Name.{IsName}
use Rattle.vg_script.specs.Classes.{name_of, names_of, number_of, mac_of, prefix_of, prefix6_of, kind_of}
use Rattle.vg_script.specs.Lawful.{block_events, IsBlock, IsLawfulBlock, IsLawfulEdit, AreLawfulEdits, IsTarget, IsEdit, AreEdits}
use Rattle.vg_script.specs.Lines.{lines, without_comment, is_allowed, words}
use Rattle.vg_script.specs.Plain.{mac_text, prefix_text, prefix6_text, names_text, kind_text, target_words, edit_words, edit_lines, block_lines, script_lines, plain}
use Rattle.vg_script.specs.Reading.{◌>>=◌, most_events, Begun, Nothing, AtBlock, ProcessBlock, Reading, with_edit, with_block, with_words, with_line, with_lines, with_statement, value_of, refused_if, refused, nothing_read, script_of_lines, script_of, largest_script}
use Rattle.vg_script.specs.RoundTrip.{edits_from, groups_from, block_from, blocks_from, renumbered, edit_without_line, edits_without_lines, block_without_lines, IsSameButLines, ReadsBack}
use Rattle.vg_script.specs.declared.statements.Statement.TheVariants.{At, Process}
use Rattle.vg_script.specs.Statements.{Words, Form, interface_form, node_form, arc_form, adjacency_form, route_form, unroute_form, route6_form, unroute6_form, change, at_form, process_form, row_of}
use Rattle.vg_script.proofs.RoundTripLines.{each-append, lines_are_read, IsWord, AreWords, text_of, texts_of, no_comment_is_cut, bytes_are_allowed, words_are_read}
use Rattle.vg_script.proofs.RoundTripClasses.{name_is_read, name_is_word, number_is_read, number_is_word, mac_is_read, mac_is_word, prefix_is_read, prefix_is_word, names_are_read, names_are_word, prefix6_is_read, prefix6_is_word}
use Rattle.vg_script.proofs.RoundTripKinds.{kind_is_read, kind_is_word, literal}

-- the forms of the edits, on words that are read
interface_by : (name mac mtu n : List ℕ) (m : Mac) (t : ℕ) (up filter : Bool)
    → name_of name ≡ Some n → mac_of mac ≡ Some m → number_of 68 65535 mtu ≡ Some t
    → interface_form (name ∷ codes "mac" ∷ mac ∷ codes "mtu" ∷ mtu ∷ (if up then codes "up" else codes "down") ∷ (if filter then codes "filter" ∷ [] else []))
    ≡ Ok (edits.Interface n m t up filter, [])
interface_by name mac mtu n m t true true e f g = rw (e, f, g) refl
interface_by name mac mtu n m t true false e f g = rw (e, f, g) refl
interface_by name mac mtu n m t false true e f g = rw (e, f, g) refl
interface_by name mac mtu n m t false false e f g = rw (e, f, g) refl

node_by : (name kind n : List ℕ) (k : Kind) → name_of name ≡ Some n → kind_of kind ≡ Some k
    → node_form (name ∷ codes "kind" ∷ kind ∷ []) ≡ Ok (edits.Node n k, [])
node_by name kind n k e f = rw (e, f) refl

arc_by : (from slot to a b c : List ℕ) → name_of from ≡ Some a → name_of slot ≡ Some b → name_of to ≡ Some c
    → arc_form (from ∷ slot ∷ to ∷ []) ≡ Ok (edits.Arc a b c, [])
arc_by from slot to a b c e f g = rw (e, f, g) refl

adjacency_by : (name interface mac n i : List ℕ) (m : Mac) → name_of name ≡ Some n → name_of interface ≡ Some i → mac_of mac ≡ Some m
    → adjacency_form (name ∷ codes "interface" ∷ interface ∷ codes "dst" ∷ mac ∷ []) ≡ Ok (edits.Adjacency n i m, [])
adjacency_by name interface mac n i m e f g = rw (e, f, g) refl

route_by : (prefix : List ℕ) (p : Prefix) (to : RouteWord) → prefix_of prefix ≡ Some p → IsTarget to
    → route_form (prefix ∷ target_words to) ≡ Ok (edits.Route p to, [])
route_by prefix p (targets.Via names) e h = let f : names_of (names_text names) ≡ Some names = names_are_read names h.0 h.1 in rw (e, f) refl
route_by prefix p targets.Local e h = rw e refl
route_by prefix p targets.Drop e h = rw e refl

unroute_by : (prefix : List ℕ) (p : Prefix) → prefix_of prefix ≡ Some p → unroute_form (prefix ∷ []) ≡ Ok (edits.Unroute p, [])
unroute_by prefix p e = rw e refl

route6_by : (prefix : List ℕ) (p : Prefix6) (to : RouteWord) → prefix6_of prefix ≡ Some p → IsTarget to
    → route6_form (prefix ∷ target_words to) ≡ Ok (edits.Route6 p to, [])
route6_by prefix p (targets.Via names) e h = let f : names_of (names_text names) ≡ Some names = names_are_read names h.0 h.1 in rw (e, f) refl
route6_by prefix p targets.Local e h = rw e refl
route6_by prefix p targets.Drop e h = rw e refl

unroute6_by : (prefix : List ℕ) (p : Prefix6) → prefix6_of prefix ≡ Some p → unroute6_form (prefix ∷ []) ≡ Ok (edits.Unroute6 p, [])
unroute6_by prefix p e = rw e refl

at_by : (word : List ℕ) (time : ℕ) → number_of 0 1000000000000 word ≡ Some time → at_form (word ∷ []) ≡ Ok (At time, [])
at_by word time e = rw e refl

process_by : (name every count n : List ℕ) (e c : ℕ) → name_of name ≡ Some n → number_of 1 1000000000000 every ≡ Some e → number_of 1 999 count ≡ Some c
    → process_form (name ∷ codes "every" ∷ every ∷ codes "count" ∷ count ∷ []) ≡ Ok (Process n e c, [])
process_by name every count n e c h k l = rw (h, k, l) refl

-- the words of an edit are words, and are read as the edit
up_word : (up : Bool) → IsWord (if up then codes "up" else codes "down")
up_word true = literal _ refl refl
up_word false = literal _ refl refl

filter_words : (filter : Bool) → AreWords (if filter then codes "filter" ∷ [] else [])
filter_words true = (literal _ refl refl, tt)
filter_words false = tt

target_is_words : (to : RouteWord) → IsTarget to → AreWords (target_words to)
target_is_words (targets.Via names) h = (literal _ refl refl, (names_are_word names h.0 h.1, tt))
target_is_words targets.Local h = (literal _ refl refl, tt)
target_is_words targets.Drop h = (literal _ refl refl, tt)

edit_is_words : (e : Edit) → IsEdit e → IsLawfulEdit e → AreWords (edit_words e)
edit_is_words (edits.Interface name mac mtu up filter) h l =
    (literal _ refl refl, (name_is_word name h.0, (literal _ refl refl, (mac_is_word mac h.1, (literal _ refl refl, (number_is_word mtu (omega (arith, l.1)), (up_word up, filter_words filter)))))))
edit_is_words (edits.Node name kind) h l = (literal _ refl refl, (name_is_word name h, (literal _ refl refl, (kind_is_word kind l, tt))))
edit_is_words (edits.Arc from slot to) h l = (literal _ refl refl, (name_is_word from h.0, (name_is_word slot h.1, (name_is_word to h.2, tt))))
edit_is_words (edits.Adjacency name interface mac) h l =
    (literal _ refl refl, (name_is_word name h.0, (literal _ refl refl, (name_is_word interface h.1, (literal _ refl refl, (mac_is_word mac h.2, tt))))))
edit_is_words (edits.Route prefix to) h l = (literal _ refl refl, (prefix_is_word prefix, target_is_words to h.1))
edit_is_words (edits.Unroute prefix) h l = (literal _ refl refl, (prefix_is_word prefix, tt))
edit_is_words (edits.Route6 prefix to) h l = (literal _ refl refl, (prefix6_is_word prefix, target_is_words to h.1))
edit_is_words (edits.Unroute6 prefix) h l = (literal _ refl refl, (prefix6_is_word prefix, tt))

-- an edit is made where its form reads it
change_is_read : (n : ℕ) (r : Reading) (form : Form Edit) (others : Words) (e : Edit) → form others ≡ Ok (e, [])
    → value_of (change form) others >>= with_statement n r ≡ Ok (with_edit (record { line = n; edit = e }) r r.begun)
change_is_read n r form others e h = rw h refl

-- each edit is read from its words
edit_is_read : (n : ℕ) (r : Reading) (e : Edit) → IsEdit e → IsLawfulEdit e
    → with_words n r (edit_words e) ≡ Ok (with_edit (record { line = n; edit = e }) r r.begun)
unfolding row_of
edit_is_read n r (edits.Interface name mac mtu up filter) h l =
    change_is_read n r interface_form
    (name ∷ codes "mac" ∷ mac_text mac ∷ codes "mtu" ∷ decimal mtu ∷ (if up then codes "up" else codes "down") ∷ (if filter then codes "filter" ∷ [] else []))
    (edits.Interface name mac mtu up filter)
    (interface_by name (mac_text mac) (decimal mtu) name mac mtu up filter (name_is_read name h.0) (mac_is_read mac h.1) (number_is_read 68 65535 mtu (omega (arith, l.1)) l.0 l.1))
edit_is_read n r (edits.Node name kind) h l =
    change_is_read n r node_form (name ∷ codes "kind" ∷ kind_text kind ∷ []) (edits.Node name kind) (node_by name (kind_text kind) name kind (name_is_read name h) (kind_is_read kind l))
edit_is_read n r (edits.Arc from slot to) h l =
    change_is_read n r arc_form (from ∷ slot ∷ to ∷ []) (edits.Arc from slot to) (arc_by from slot to from slot to (name_is_read from h.0) (name_is_read slot h.1) (name_is_read to h.2))
edit_is_read n r (edits.Adjacency name interface mac) h l =
    change_is_read n r adjacency_form (name ∷ codes "interface" ∷ interface ∷ codes "dst" ∷ mac_text mac ∷ []) (edits.Adjacency name interface mac)
    (adjacency_by name interface (mac_text mac) name interface mac (name_is_read name h.0) (name_is_read interface h.1) (mac_is_read mac h.2))
edit_is_read n r (edits.Route prefix to) h l =
    change_is_read n r route_form (prefix_text prefix ∷ target_words to) (edits.Route prefix to) (route_by (prefix_text prefix) prefix to (prefix_is_read prefix h.0) h.1)
edit_is_read n r (edits.Unroute prefix) h l =
    change_is_read n r unroute_form (prefix_text prefix ∷ []) (edits.Unroute prefix) (unroute_by (prefix_text prefix) prefix (prefix_is_read prefix h))
edit_is_read n r (edits.Route6 prefix to) h l =
    change_is_read n r route6_form (prefix6_text prefix ∷ target_words to) (edits.Route6 prefix to) (route6_by (prefix6_text prefix) prefix to (prefix6_is_read prefix h.0) h.1)
edit_is_read n r (edits.Unroute6 prefix) h l =
    change_is_read n r unroute6_form (prefix6_text prefix ∷ []) (edits.Unroute6 prefix) (unroute6_by (prefix6_text prefix) prefix (prefix6_is_read prefix h))

-- a line is read as its words
line_by : (n : ℕ) (r : Reading) (bytes : List ℕ) (ws : Words) → without_comment bytes ≡ bytes → list_all is_allowed bytes ≡ true → words bytes ≡ ws
    → with_line n r bytes ≡ with_words n r ws
line_by n r bytes ws e f g =
    ap (λ text. refused_if (not (list_all is_allowed text)) causes.Bytes >>= (λ _. with_words n r (words text))) e
    ∙ ap (λ b. refused_if (not b) causes.Bytes >>= (λ _. with_words n r (words bytes))) f
    ∙ ap (with_words n r) g

-- the first of several lines is read
one_line : (n : ℕ) (r next : Reading) (ws : Words) (more : List Words) → AreWords ws → with_words n r ws ≡ Ok next
    → with_lines n r (texts_of (ws ∷ more)) ≡ with_lines (suc n) next (texts_of more)
one_line n r next ws more h e =
    let read : with_line n r (text_of ws) ≡ Ok next =
    line_by n r (text_of ws) ws (no_comment_is_cut ws h) (bytes_are_allowed ws h) (words_are_read ws h) ∙ e in
    rw (read, with_lines) refl

-- what was read, with edits
with_edits : Reading → List EditLine → Reading
with_edits r [] = r
with_edits r (e ∷ es) = with_edits (with_edit e r r.begun) es

-- edits that are read as they were printed
abbrev AreReadable : List EditLine → Type 0
AreReadable es = AllByRecursion (λ l. IsEdit l.edit × IsLawfulEdit l.edit) es

-- edits, one a line
edits_are_read : (es : List EditLine) (n : ℕ) (r : Reading) (more : List Words) → AreReadable es
    → with_lines n r (texts_of (edit_lines es ++ more)) ≡ with_lines (n + length es) (with_edits r (edits_from n es)) (texts_of more)
unfolding with_edits
edits_are_read [] n r more h = ap (λ m. with_lines m r (texts_of more)) (let same : n ≡ n + 0 = omega arith in same)
edits_are_read (l ∷ ls) n r more h =
    one_line n r (with_edit (record l { line = n }) r r.begun) (edit_words l.edit) (edit_lines ls ++ more) (edit_is_words l.edit h.0.0 h.0.1)
    (edit_is_read n r l.edit h.0.0 h.0.1)
    ∙ edits_are_read ls (suc n) (with_edit (record l { line = n }) r r.begun) more h.1
    ∙ ap (λ m. with_lines m (with_edits r (edits_from n (l ∷ ls))) (texts_of more)) (let same : suc n + length ls ≡ n + suc (length ls) = omega arith in same)

-- what was read, by its parts
abbrev state : List EditLine → List Block → Begun → ℕ → Reading
state start blocks begun events = record { start = start; blocks = blocks; begun = begun; events = events }

-- edits go outside blocks, or into the block that is begun
edits_outside : (es s : List EditLine) (bs : List Block) (ev : ℕ) → with_edits (state s bs Nothing ev) es ≡ state (s ++ es) bs Nothing ev
unfolding with_edits
edits_outside [] s bs ev = ap (λ x. state x bs Nothing ev) (sym (append-nil s))
edits_outside (e ∷ es) s bs ev = edits_outside es (s ++ e ∷ []) bs ev ∙ ap (λ x. state x bs Nothing ev) (append_assoc s (e ∷ []) es)

edits_in_at : (es s : List EditLine) (bs : List Block) (ev line time : ℕ) (group : List EditLine)
    → with_edits (state s bs (AtBlock line time group) ev) es ≡ state s bs (AtBlock line time (group ++ es)) ev
unfolding with_edits
edits_in_at [] s bs ev line time group = ap (λ x. state s bs (AtBlock line time x) ev) (sym (append-nil group))
edits_in_at (e ∷ es) s bs ev line time group =
    edits_in_at es s bs ev line time (group ++ e ∷ []) ∙ ap (λ x. state s bs (AtBlock line time x) ev) (append_assoc group (e ∷ []) es)

edits_in_process : (es s : List EditLine) (bs : List Block) (ev line : ℕ) (name : List ℕ) (every count : ℕ) (groups : List (List EditLine)) (group : List EditLine)
    → with_edits (state s bs (ProcessBlock line name every count groups group) ev) es ≡ state s bs (ProcessBlock line name every count groups (group ++ es)) ev
unfolding with_edits
edits_in_process [] s bs ev line name every count groups group = ap (λ x. state s bs (ProcessBlock line name every count groups x) ev) (sym (append-nil group))
edits_in_process (e ∷ es) s bs ev line name every count groups group =
    edits_in_process es s bs ev line name every count groups (group ++ e ∷ [])
    ∙ ap (λ x. state s bs (ProcessBlock line name every count groups x) ev) (append_assoc group (e ∷ []) es)

-- a block's first line
block_begins : (begun : Begun) (k : ℕ) (r : Reading) → r.events + k ≤ most_events → with_block begun k r ≡ Ok (record r { begun = begun; events = r.events + k })
block_begins begun k r h =
    ap (λ b. refused_if b causes.TooManyGenerations >>= (λ _. Ok (record r { begun = begun; events = r.events + k }))) (le-ltb most_events (r.events + k) h)

at_begins : (n : ℕ) (s : List EditLine) (bs : List Block) (ev time : ℕ) → time ≤ 1000000000000 → ev + 1 ≤ most_events
    → with_words n (state s bs Nothing ev) (codes "at" ∷ decimal time ∷ []) ≡ Ok (state s bs (AtBlock n time []) (ev + 1))
unfolding row_of
at_begins n s bs ev time h k =
    ap (λ found. (found >>= (λ f. Ok f.0)) >>= with_statement n (state s bs Nothing ev)) (at_by (decimal time) time (number_is_read 0 1000000000000 time (omega (arith, h)) (omega arith) h))
    ∙ block_begins (AtBlock n time []) 1 (state s bs Nothing ev) k

process_begins : (n : ℕ) (s : List EditLine) (bs : List Block) (ev : ℕ) (name : List ℕ) (every count : ℕ) → IsName name → 1 ≤ every → every ≤ 1000000000000 → 1 ≤ count
    → count ≤ 999 → ev + count ≤ most_events
    → with_words n (state s bs Nothing ev) (codes "process" ∷ name ∷ codes "every" ∷ decimal every ∷ codes "count" ∷ decimal count ∷ [])
    ≡ Ok (state s bs (ProcessBlock n name every count [] []) (ev + count))
unfolding row_of
process_begins n s bs ev name every count h a b c d k =
    ap (λ found. (found >>= (λ f. Ok f.0)) >>= with_statement n (state s bs Nothing ev))
    (process_by name (decimal every) (decimal count) name every count (name_is_read name h) (number_is_read 1 1000000000000 every (omega (arith, b)) a b) (number_is_read 1 999 count (omega (arith, d)) c d))
    ∙ block_begins (ProcessBlock n name every count [] []) count (state s bs Nothing ev) k

-- its other lines of one word
then_is_read : (n : ℕ) (s : List EditLine) (bs : List Block) (ev line : ℕ) (name : List ℕ) (every count : ℕ) (groups : List (List EditLine)) (group : List EditLine)
    → with_words n (state s bs (ProcessBlock line name every count groups group) ev) (codes "then" ∷ []) ≡ Ok (state s bs (ProcessBlock line name every count (groups ++ group ∷ []) []) ev)
unfolding row_of
then_is_read n s bs ev line name every count groups group = refl

at_ends : (n : ℕ) (s : List EditLine) (bs : List Block) (ev line time : ℕ) (group : List EditLine)
    → with_words n (state s bs (AtBlock line time group) ev) (codes "end" ∷ []) ≡ Ok (state s (bs ++ blocks.At line time group ∷ []) Nothing ev)
unfolding row_of
at_ends n s bs ev line time group = refl

process_ends : (n : ℕ) (s : List EditLine) (bs : List Block) (ev line : ℕ) (name : List ℕ) (every count : ℕ) (groups : List (List EditLine)) (group : List EditLine)
    → with_words n (state s bs (ProcessBlock line name every count groups group) ev) (codes "end" ∷ [])
    ≡ Ok (state s (bs ++ blocks.Process line name every count (groups ++ group ∷ []) ∷ []) Nothing ev)
unfolding row_of
process_ends n s bs ev line name every count groups group = refl

then_words : AreWords (codes "then" ∷ [])
then_words = (literal _ refl refl, tt)

end_words : AreWords (codes "end" ∷ [])
end_words = (literal _ refl refl, tt)

-- the groups of a process behind its first, and its end
abbrev then_lines : List EditLine → List Words
then_lines group = (codes "then" ∷ []) ∷ edit_lines group

further_are_read : (gs : List (List EditLine)) (n : ℕ) (s : List EditLine) (bs : List Block) (ev line : ℕ) (name : List ℕ) (every count : ℕ)
    (groups : List (List EditLine)) (group : List EditLine) (more : List Words) → AllByRecursion AreReadable gs
    → with_lines n (state s bs (ProcessBlock line name every count groups group) ev) (texts_of (flat_map then_lines gs ++ (codes "end" ∷ []) ∷ more))
    ≡ with_lines (suc n + length (flat_map then_lines gs)) (state s (bs ++ blocks.Process line name every count (groups ++ group ∷ groups_from n gs) ∷ []) Nothing ev) (texts_of more)
further_are_read [] n s bs ev line name every count groups group more h =
    one_line n (state s bs (ProcessBlock line name every count groups group) ev) (state s (bs ++ blocks.Process line name every count (groups ++ group ∷ []) ∷ []) Nothing ev)
    (codes "end" ∷ []) more end_words (process_ends n s bs ev line name every count groups group)
    ∙ ap (λ m. with_lines m (state s (bs ++ blocks.Process line name every count (groups ++ group ∷ []) ∷ []) Nothing ev) (texts_of more)) (let same : suc n ≡ suc n + 0 = omega arith in same)
further_are_read (g ∷ gs) n s bs ev line name every count groups group more h =
    let behind : List Words = flat_map then_lines gs ++ (codes "end" ∷ []) ∷ more in
    let closed : List (List EditLine) = groups ++ group ∷ [] in
    let whole : List Block = bs ++ blocks.Process line name every count (groups ++ group ∷ groups_from n (g ∷ gs)) ∷ [] in
    ap (λ ls. with_lines n (state s bs (ProcessBlock line name every count groups group) ev) (texts_of ls)) (append_assoc (then_lines g) (flat_map then_lines gs) ((codes "end" ∷ []) ∷ more))
    ∙ one_line n (state s bs (ProcessBlock line name every count groups group) ev) (state s bs (ProcessBlock line name every count closed []) ev)
    (codes "then" ∷ []) (edit_lines g ++ behind) then_words (then_is_read n s bs ev line name every count groups group)
    ∙ edits_are_read g (suc n) (state s bs (ProcessBlock line name every count closed []) ev) behind h.0
    ∙ ap (λ r. with_lines (suc n + length g) r (texts_of behind)) (edits_in_process (edits_from (suc n) g) s bs ev line name every count closed [])
    ∙ further_are_read gs (suc n + length g) s bs ev line name every count closed (edits_from (suc n) g) more h.1
    ∙ ap (λ gs'. with_lines (suc (suc n + length g) + length (flat_map then_lines gs)) (state s (bs ++ blocks.Process line name every count gs' ∷ []) Nothing ev) (texts_of more))
    (append_assoc groups (group ∷ []) (edits_from (suc n) g ∷ groups_from (suc n + length g) gs))
    ∙ ap (λ m. with_lines m (state s whole Nothing ev) (texts_of more)) (lines_of g gs n)
  where
    lines_of : (g : List EditLine) (gs : List (List EditLine)) (n : ℕ)
        → suc (suc n + length g) + length (flat_map then_lines gs) ≡ suc n + length (then_lines g ++ flat_map then_lines gs)
    lines_of g gs n = omega (arith, length-append (then_lines g) (flat_map then_lines gs), length-map g (λ l. edit_words l.edit))

-- a block that is read as it was printed
abbrev IsReadable : Block → Type 0
IsReadable (blocks.At line time group) = (time ≤ 1000000000000) × AreReadable group
IsReadable (blocks.Process line name every count groups) =
    IsName name × (1 ≤ every) × (every ≤ 1000000000000) × (1 ≤ count) × (count ≤ 999) × (1 ≤ length groups) × AllByRecursion AreReadable groups

-- a block, from its first line to its end
block_is_read : (b : Block) (n : ℕ) (s : List EditLine) (bs : List Block) (ev : ℕ) (more : List Words) → IsReadable b → ev + block_events b ≤ most_events
    → with_lines n (state s bs Nothing ev) (texts_of (block_lines b ++ more))
    ≡ with_lines (n + length (block_lines b)) (state s (bs ++ block_from n b ∷ []) Nothing (ev + block_events b)) (texts_of more)
block_is_read (blocks.At line time group) n s bs ev more h k =
    ap (λ ls. with_lines n (state s bs Nothing ev) (texts_of ((codes "at" ∷ decimal time ∷ []) ∷ ls))) (append_assoc (edit_lines group) ((codes "end" ∷ []) ∷ []) more)
    ∙ one_line n (state s bs Nothing ev) (state s bs (AtBlock n time []) (ev + 1)) (codes "at" ∷ decimal time ∷ []) (edit_lines group ++ (codes "end" ∷ []) ∷ more)
    (literal _ refl refl, (number_is_word time (omega (arith, h.0)), tt)) (at_begins n s bs ev time h.0 k)
    ∙ edits_are_read group (suc n) (state s bs (AtBlock n time []) (ev + 1)) ((codes "end" ∷ []) ∷ more) h.1
    ∙ ap (λ r. with_lines (suc n + length group) r (texts_of ((codes "end" ∷ []) ∷ more))) (edits_in_at (edits_from (suc n) group) s bs (ev + 1) n time [])
    ∙ one_line (suc n + length group) (state s bs (AtBlock n time (edits_from (suc n) group)) (ev + 1)) (state s (bs ++ blocks.At n time (edits_from (suc n) group) ∷ []) Nothing (ev + 1))
    (codes "end" ∷ []) more end_words (at_ends (suc n + length group) s bs (ev + 1) n time (edits_from (suc n) group))
    ∙ ap (λ m. with_lines m (state s (bs ++ blocks.At n time (edits_from (suc n) group) ∷ []) Nothing (ev + 1)) (texts_of more)) (lines_of group n)
  where
    lines_of : (g : List EditLine) (n : ℕ) → suc (suc n + length g) ≡ n + suc (length (edit_lines g ++ (codes "end" ∷ []) ∷ []))
    lines_of g n = omega (arith, length-append (edit_lines g) ((codes "end" ∷ []) ∷ []), length-map g (λ l. edit_words l.edit))
block_is_read (blocks.Process line name every count []) n s bs ev more h k = absurd (omega (arith, h.5))
block_is_read (blocks.Process line name every count (g ∷ gs)) n s bs ev more h k =
    let begun : Reading = state s bs (ProcessBlock n name every count [] []) (ev + count) in
    let behind : List Words = flat_map then_lines gs ++ (codes "end" ∷ []) ∷ more in
    ap (λ ls. with_lines n (state s bs Nothing ev) (texts_of ((codes "process" ∷ name ∷ codes "every" ∷ decimal every ∷ codes "count" ∷ decimal count ∷ []) ∷ ls)))
    (regroup (edit_lines g) (flat_map then_lines gs) more)
    ∙ one_line n (state s bs Nothing ev) begun (codes "process" ∷ name ∷ codes "every" ∷ decimal every ∷ codes "count" ∷ decimal count ∷ []) (edit_lines g ++ behind)
    (literal _ refl refl, (name_is_word name h.0, (literal _ refl refl, (number_is_word every (omega (arith, h.2)), (literal _ refl refl, (number_is_word count (omega (arith, h.4)), tt))))))
    (process_begins n s bs ev name every count h.0 h.1 h.2 h.3 h.4 k)
    ∙ edits_are_read g (suc n) begun behind h.6.0
    ∙ ap (λ r. with_lines (suc n + length g) r (texts_of behind)) (edits_in_process (edits_from (suc n) g) s bs (ev + count) n name every count [] [])
    ∙ further_are_read gs (suc n + length g) s bs (ev + count) n name every count [] (edits_from (suc n) g) more h.6.1
    ∙ ap (λ m. with_lines m (state s (bs ++ blocks.Process n name every count (groups_from n (g ∷ gs)) ∷ []) Nothing (ev + count)) (texts_of more)) (lines_of g gs n)
  where
    regroup : (a b more : List Words) → ((a ++ b) ++ (codes "end" ∷ []) ∷ []) ++ more ≡ a ++ (b ++ (codes "end" ∷ []) ∷ more)
    regroup a b more = append_assoc (a ++ b) ((codes "end" ∷ []) ∷ []) more ∙ append_assoc a b ((codes "end" ∷ []) ∷ more)

    lines_of : (g : List EditLine) (gs : List (List EditLine)) (n : ℕ)
        → suc (suc n + length g) + length (flat_map then_lines gs) ≡ n + suc (length ((edit_lines g ++ flat_map then_lines gs) ++ (codes "end" ∷ []) ∷ []))
    lines_of g gs n =
        omega (arith, length-append (edit_lines g ++ flat_map then_lines gs) ((codes "end" ∷ []) ∷ []), length-append (edit_lines g) (flat_map then_lines gs), length-map g (λ l. edit_words l.edit))

-- the events of blocks, with those before
events_from : ℕ → List Block → ℕ
events_from ev bs = fold (λ e b. e + block_events b) ev bs

events_rise : (bs : List Block) (ev : ℕ) → ev ≤ events_from ev bs
unfolding events_from
events_rise [] ev = omega arith
events_rise (b ∷ bs) ev = omega (arith, events_rise bs (ev + block_events b))

-- blocks one behind the other
blocks_are_read : (these : List Block) (n : ℕ) (s : List EditLine) (bs : List Block) (ev : ℕ) → AllByRecursion IsReadable these → events_from ev these ≤ most_events
    → with_lines n (state s bs Nothing ev) (texts_of (flat_map block_lines these)) ≡ Ok (state s (bs ++ blocks_from n these) Nothing (events_from ev these))
unfolding events_from
blocks_are_read [] n s bs ev h k = ap (λ x. Ok (state s x Nothing ev)) (sym (append-nil bs))
blocks_are_read (b ∷ these) n s bs ev h k =
    block_is_read b n s bs ev (flat_map block_lines these) h.0 (omega (arith, k, events_rise these (ev + block_events b)))
    ∙ blocks_are_read these (n + length (block_lines b)) s (bs ++ block_from n b ∷ []) (ev + block_events b) h.1 k
    ∙ ap (λ x. Ok (state s x Nothing (events_from ev (b ∷ these)))) (append_assoc bs (block_from n b ∷ []) (blocks_from (n + length (block_lines b)) these))

-- the words of all lines are words
edit_lines_are_words : (es : List EditLine) → AreReadable es → AllByRecursion AreWords (edit_lines es)
edit_lines_are_words [] h = tt
edit_lines_are_words (l ∷ ls) h = (edit_is_words l.edit h.0.0 h.0.1, edit_lines_are_words ls h.1)

then_lines_are_words : (gs : List (List EditLine)) → AllByRecursion AreReadable gs → AllByRecursion AreWords (flat_map then_lines gs)
then_lines_are_words [] h = tt
then_lines_are_words (g ∷ gs) h =
    (then_words, each-append AreWords (edit_lines g) (flat_map then_lines gs) (edit_lines_are_words g h.0) (then_lines_are_words gs h.1))

block_lines_are_words : (b : Block) → IsReadable b → AllByRecursion AreWords (block_lines b)
block_lines_are_words (blocks.At line time group) h = (
  (literal _ refl refl, (number_is_word time (omega (arith, h.0)), tt)),
  each-append AreWords (edit_lines group) ((codes "end" ∷ []) ∷ []) (edit_lines_are_words group h.1) (end_words, tt),
)
block_lines_are_words (blocks.Process line name every count []) h = absurd (omega (arith, h.5))
block_lines_are_words (blocks.Process line name every count (g ∷ gs)) h = (
  (literal _ refl refl, (name_is_word name h.0, (literal _ refl refl, (number_is_word every (omega (arith, h.2)), (literal _ refl refl, (number_is_word count (omega (arith, h.4)), tt)))))),
  each-append AreWords (edit_lines g ++ flat_map then_lines gs) ((codes "end" ∷ []) ∷ [])
      (each-append AreWords (edit_lines g) (flat_map then_lines gs) (edit_lines_are_words g h.6.0) (then_lines_are_words gs h.6.1)) (end_words, tt),
)

blocks_are_words : (bs : List Block) → AllByRecursion IsReadable bs → AllByRecursion AreWords (flat_map block_lines bs)
blocks_are_words [] h = tt
blocks_are_words (b ∷ bs) h =
    each-append AreWords (block_lines b) (flat_map block_lines bs) (block_lines_are_words b h.0) (blocks_are_words bs h.1)

-- the lines of a script, read
script_lines_are_read : (script : Script) → AreReadable script.start → AllByRecursion IsReadable script.blocks → events_from 0 script.blocks ≤ most_events
    → with_lines 1 nothing_read (texts_of (script_lines script))
    ≡ Ok (state (edits_from 1 script.start) (blocks_from (suc (length script.start)) script.blocks) Nothing (events_from 0 script.blocks))
script_lines_are_read script h k e =
    edits_are_read script.start 1 nothing_read (flat_map block_lines script.blocks) h
    ∙ ap (λ r. with_lines (1 + length script.start) r (texts_of (flat_map block_lines script.blocks))) (edits_outside (edits_from 1 script.start) [] [] 0)
    ∙ blocks_are_read script.blocks (1 + length script.start) (edits_from 1 script.start) [] 0 k e
    ∙ ap (λ n. Ok (state (edits_from 1 script.start) (blocks_from n script.blocks) Nothing (events_from 0 script.blocks))) (let same : 1 + length script.start ≡ suc (length script.start) = omega arith in same)

-- a script whose blocks are all closed
read_by : (ls : List (List ℕ)) (s : List EditLine) (bs : List Block) (ev : ℕ) → with_lines 1 nothing_read ls ≡ Ok (state s bs Nothing ev)
    → script_of_lines ls ≡ Ok (record { start = s; blocks = bs })
read_by ls s bs ev e = rw (e, script_of_lines) refl

-- a text that is not too large
within_by : (text : List ℕ) (ls : List (List ℕ)) (script : Script) → length text ≤ largest_script → lines text ≡ ls → script_of_lines ls ≡ Ok script → script_of text ≡ Ok script
within_by text ls script h e f =
    ap (λ b. if b then refused 0 causes.TooLarge else script_of_lines (lines text)) (le-ltb largest_script (length text) h) ∙ ap script_of_lines e ∙ f

-- a script that is printed and read is the same but for line numbers
edits_keep : (es : List EditLine) (n : ℕ) → edits_without_lines (edits_from n es) ≡ edits_without_lines es
edits_keep [] n = refl
edits_keep (l ∷ ls) n = ap (λ r. edit_without_line l ∷ r) (edits_keep ls (suc n))

groups_keep : (gs : List (List EditLine)) (n : ℕ) → map edits_without_lines (groups_from n gs) ≡ map edits_without_lines gs
groups_keep [] n = refl
groups_keep (g ∷ gs) n =
    ap (λ x. x ∷ map edits_without_lines (groups_from (suc n + length g) gs)) (edits_keep g (suc n)) ∙ ap (λ r. edits_without_lines g ∷ r) (groups_keep gs (suc n + length g))

block_keeps : (b : Block) (n : ℕ) → block_without_lines (block_from n b) ≡ block_without_lines b
block_keeps (blocks.At line time group) n = ap (λ x. blocks.At 0 time x) (edits_keep group (suc n))
block_keeps (blocks.Process line name every count groups) n = ap (λ x. blocks.Process 0 name every count x) (groups_keep groups n)

blocks_keep : (bs : List Block) (n : ℕ) → map block_without_lines (blocks_from n bs) ≡ map block_without_lines bs
blocks_keep [] n = refl
blocks_keep (b ∷ bs) n =
    ap (λ x. x ∷ map block_without_lines (blocks_from (n + length (block_lines b)) bs)) (block_keeps b n) ∙ ap (λ r. block_without_lines b ∷ r) (blocks_keep bs (n + length (block_lines b)))

same_but_lines : (script : Script) → IsSameButLines (renumbered script) script
same_but_lines script =
    let whole : List EditLine → List Block → Script = λ s bs. record { start = s; blocks = bs } in
    ap (λ s. whole s (map block_without_lines (blocks_from (suc (length script.start)) script.blocks))) (edits_keep script.start 1)
    ∙ ap (λ bs. whole (edits_without_lines script.start) bs) (blocks_keep script.blocks (suc (length script.start)))

-- a lawful script is readable
readable_edits : (es : List EditLine) → AllByRecursion (λ l. IsEdit l.edit) es → AllByRecursion (λ l. IsLawfulEdit l.edit) es → AreReadable es
readable_edits [] h k = tt
readable_edits (l ∷ ls) h k = ((h.0, k.0), readable_edits ls h.1 k.1)

readable_from : (es : List EditLine) → AreEdits es → AreLawfulEdits es → AreReadable es
readable_from es h k = readable_edits es (recursion_from_All (λ l. IsEdit l.edit) es h) (recursion_from_All (λ l. IsLawfulEdit l.edit) es k)

readable_groups : (gs : List (List EditLine)) → AllByRecursion AreEdits gs → AllByRecursion AreLawfulEdits gs → AllByRecursion AreReadable gs
readable_groups [] h k = tt
readable_groups (g ∷ gs) h k = (readable_from g h.0 k.0, readable_groups gs h.1 k.1)

readable_block : (b : Block) → IsBlock b → IsLawfulBlock b → IsReadable b
readable_block (blocks.At line time group) h k = (k.0, readable_from group h k.1)
readable_block (blocks.Process line name every count groups) h k =
    (h.0, k.0, k.1, k.2, k.3, k.4, readable_groups groups (recursion_from_All AreEdits groups h.1) (recursion_from_All AreLawfulEdits groups k.5))

readable_blocks : (bs : List Block) → AllByRecursion IsBlock bs → AllByRecursion IsLawfulBlock bs → AllByRecursion IsReadable bs
readable_blocks [] h k = tt
readable_blocks (b ∷ bs) h k = (readable_block b h.0 k.0, readable_blocks bs h.1 k.1)

-- a lawful script that was printed is read as the same script with the lines of its text
pub reads_back : ReadsBack
unfolding events_from
reads_back script h k short =
    let start : AreReadable script.start = readable_from script.start h.start k.start in
    let these : AllByRecursion IsReadable script.blocks =
    readable_blocks script.blocks (recursion_from_All IsBlock script.blocks h.blocks) (recursion_from_All IsLawfulBlock script.blocks k.blocks) in (
      within_by (plain script) (texts_of (script_lines script)) (renumbered script) short
          (lines_are_read (script_lines script) (each-append AreWords (edit_lines script.start) (flat_map block_lines script.blocks) (edit_lines_are_words script.start start) (blocks_are_words script.blocks these)))
          (read_by (texts_of (script_lines script)) (edits_from 1 script.start) (blocks_from (suc (length script.start)) script.blocks) (events_from 0 script.blocks)
          (script_lines_are_read script start these k.events)),
      same_but_lines script,
    )
