-- For the clause of `Work::take_frames`, and for `Worker::round` in vg_dispatch: frames are taken from queues, one by one.
use Rattle.std.proofs.Common.{◌≡◌, ℕ, suc, ◌+◌, ◌*◌, ◌<◌, ◌≤◌, List, [], ◌∷◌, ◌++◌, length, map, get_or, set, refl, sym, ap, subst, ◌∙◌, arith, length-append}
use Rattle.std.specs.Prelude.{Some, None, vec_len}
use Rattle.std.specs.List.{sum_by, AllByRecursion}
use Rattle.std.proofs.lemmas.List.{append-nil, length-map}
use Rattle.std.proofs.lemmas.Grind.{flat_map-append}
use Rattle.std.proofs.lemmas.List.Sums.{sum_by-append, sum_by-cons}
use Rattle.vg_model.specs.PoolBook.{CacheBook}
use Rattle.vg_model.specs.Valid.{extent}
use Rattle.vg_pool.specs.Contents.{Contents}
use Rattle.vg_hands.specs.Handed.{IsHandFrame, IsChained}
use Rattle.vg_steps.specs.Trails.{found}
use Rattle.vg_steps.specs.declared.notes.Found.{Found}
use Rattle.vg_ring.specs.WordPlaces.{tail_word}
use Rattle.vg_journeys.specs.Trips.{Arrival, Taken, pieces_before}
use Rattle.vg_journeys.specs.Accounts.{HandoffFrame, frame_arrivals, arrivals_in, drawn_pieces}
use Rattle.vg_underway.specs.declared.underway.Work.{Work}
use Rattle.vg_underway.specs.declared.taking.Bounds.{Bounds}
use Rattle.vg_underway.specs.declared.taking.Came.{Came}
use Rattle.vg_underway.specs.Queues.{Queue, intake_of, Comes, Leaves, Tries, frame_extent, packets_in, extents_in}
use Rattle.vg_underway.specs.Underway.{Setting}
use Rattle.vg_underway.specs.Draws.{IsEntered, IsReady, IsUnderway, arrival_extent, arrivals_extent}
use Rattle.vg_underway.specs.Rest.{IsAtRest}
use Rattle.vg_underway.specs.Taking.{MayTake, taken_arrivals, AreTaken, MayComeNext, AreTried, IsSmall, IsWithinLog, TakesFrames}
use Rattle.vg_underway.proofs.DrawLemmas.{entered_none}
use Rattle.vg_underway.proofs.RestLemmas.{ready_of}

-- queues of which none was taken from
pub taken_none : (queues : List Queue) → AreTaken queues queues []
taken_none [] = tt
taken_none (q ∷ qs) = (refl, taken_none qs)

pub taken_set : (os ns : List Queue) (ts : List (List HandoffFrame)) (t : List HandoffFrame) (q d : Queue) → length ts < length os → q.ring ≡ (get_or ns (length ts) d).ring → q.taken ≡ (get_or ns (length ts) d).taken ++ t → AreTaken os ns ts
    → AreTaken os (set ns (length ts) q) (ts ++ t ∷ [])
taken_set [] ns ts t q d inside ring taken all = absurd (omega (arith, inside))
taken_set (o ∷ os) [] ts t q d inside ring taken all = absurd all
taken_set (o ∷ os) (n ∷ ns) [] t q d inside ring taken all = (ring ∙ ap (λ (x : Queue). x.ring) all.0, taken ∙ ap (λ (x : Queue). x.taken ++ t) all.0, all.1)
taken_set (o ∷ os) (n ∷ ns) (u ∷ us) t q d inside ring taken all = (all.0, all.1, taken_set os ns us t q d (omega (arith, inside)) ring taken all.2)

pub taken_length : (os ns : List Queue) (ts : List (List HandoffFrame)) → AreTaken os ns ts → length ns ≡ length os
taken_length [] [] [] all = refl
taken_length [] [] (t ∷ ts) all = absurd all
taken_length [] (n ∷ ns) ts all = absurd all
taken_length (o ∷ os) [] ts all = absurd all
taken_length (o ∷ os) (n ∷ ns) [] all = ap suc (taken_length os ns [] all.1)
taken_length (o ∷ os) (n ∷ ns) (t ∷ ts) all = ap suc (taken_length os ns ts all.2)

pub taken_rings : (os ns : List Queue) (ts : List (List HandoffFrame)) → AreTaken os ns ts → map (λ (q : Queue). q.ring) ns ≡ map (λ (q : Queue). q.ring) os
taken_rings [] [] [] all = refl
taken_rings [] [] (t ∷ ts) all = absurd all
taken_rings [] (n ∷ ns) ts all = absurd all
taken_rings (o ∷ os) [] ts all = absurd all
taken_rings (o ∷ os) (n ∷ ns) [] all = ap (λ (x : Queue). x.ring ∷ map (λ (q : Queue). q.ring) ns) all.0 ∙ ap (λ rs. o.ring ∷ rs) (taken_rings os ns [] all.1)
taken_rings (o ∷ os) (n ∷ ns) (t ∷ ts) all = ap (λ r. r ∷ map (λ (q : Queue). q.ring) ns) all.0 ∙ ap (λ rs. o.ring ∷ rs) (taken_rings os ns ts all.2)

-- the untouched queue behind those that were tried
pub taken_at : (os ns : List Queue) (ts : List (List HandoffFrame)) (d : Queue) → length ts < length os → AreTaken os ns ts → get_or ns (length ts) d ≡ get_or os (length ts) d
taken_at [] ns ts d inside all = absurd (omega (arith, inside))
taken_at (o ∷ os) [] ts d inside all = absurd all
taken_at (o ∷ os) (n ∷ ns) [] d inside all = all.0
taken_at (o ∷ os) (n ∷ ns) (t ∷ ts) d inside all = taken_at os ns ts d (omega (arith, inside)) all.2

-- how their packets come
arrivals_of_one : (worker : ℕ) (frame : HandoffFrame) → arrivals_in worker (frame ∷ []) ≡ frame_arrivals worker frame
arrivals_of_one worker frame = append-nil (frame_arrivals worker frame)

pub arrivals_with : (worker : ℕ) (took : List (List HandoffFrame)) (frame : HandoffFrame) → taken_arrivals worker (took ++ (frame ∷ []) ∷ []) ≡ taken_arrivals worker took ++ frame_arrivals worker frame
arrivals_with worker took frame =
    flat_map-append (λ frames. arrivals_in worker frames) took ((frame ∷ []) ∷ [])
    ∙ ap (λ es. taken_arrivals worker took ++ es) (append-nil (arrivals_in worker (frame ∷ [])) ∙ arrivals_of_one worker frame)

pub arrivals_without : (worker : ℕ) (took : List (List HandoffFrame)) → taken_arrivals worker (took ++ [] ∷ []) ≡ taken_arrivals worker took
arrivals_without worker took = flat_map-append (λ frames. arrivals_in worker frames) took ([] ∷ []) ∙ append-nil (taken_arrivals worker took)

frame_length : (worker : ℕ) (frame : HandoffFrame) → length (frame_arrivals worker frame) ≡ length frame.packets
frame_length worker frame = length-map frame.packets (Taken worker frame.node)

frame_weight : (worker node : ℕ) (packets : List Contents) → arrivals_extent (map (Taken worker node) packets) ≡ sum_by (λ (c : Contents). extent c.packet) packets
frame_weight worker node [] = refl
frame_weight worker node (c ∷ cs) =
    let rest = frame_weight worker node cs in
    omega (arith, rest, sum_by-cons arrival_extent (Taken worker node c) (map (Taken worker node) cs), sum_by-cons (λ (c : Contents). extent c.packet) c cs)

none_drawn_of : (worker node : ℕ) (packets : List Contents) → sum_by drawn_pieces (map (Taken worker node) packets) ≡ 0
none_drawn_of worker node [] = refl
none_drawn_of worker node (c ∷ cs) = let rest = none_drawn_of worker node cs in omega (arith, rest, sum_by-cons drawn_pieces (Taken worker node c) (map (Taken worker node) cs))

none_drawn_in : (worker : ℕ) (frames : List HandoffFrame) → sum_by drawn_pieces (arrivals_in worker frames) ≡ 0
none_drawn_in worker [] = refl
none_drawn_in worker (f ∷ fs) =
    let rest = none_drawn_in worker fs in let one = none_drawn_of worker f.node f.packets in
    omega (arith, rest, one, sum_by-append drawn_pieces (frame_arrivals worker f) (arrivals_in worker fs))

pub none_drawn : (worker : ℕ) (took : List (List HandoffFrame)) → sum_by drawn_pieces (taken_arrivals worker took) ≡ 0
none_drawn worker [] = refl
none_drawn worker (t ∷ ts) =
    let rest = none_drawn worker ts in let one = none_drawn_in worker t in
    omega (arith, rest, one, sum_by-append drawn_pieces (arrivals_in worker t) (taken_arrivals worker ts))

-- the chains of packets that were handed over
chains_of : (worker node : ℕ) (packets : List Contents) → AllByRecursion IsChained packets → sum_by pieces_before (map (Taken worker node) packets) ≤ 5 * length packets
chains_of worker node [] all = omega arith
chains_of worker node (c ∷ cs) all =
    let rest = chains_of worker node cs all.1 in
    let one = all.0 in
    omega (arith, rest, one, sum_by-cons pieces_before (Taken worker node c) (map (Taken worker node) cs))

chains_in : (s : Setting) (frames : List HandoffFrame) → AllByRecursion (MayTake s.graph s.generation) frames → sum_by pieces_before (arrivals_in s.worker frames) ≤ 5 * length (arrivals_in s.worker frames)
chains_in s [] all = omega arith
chains_in s (f ∷ fs) all =
    let rest = chains_in s fs all.1 in
    let one = chains_of s.worker f.node f.packets all.0.kept.chains in
    let size = frame_length s.worker f in
    omega (arith, rest, one, size, sum_by-append pieces_before (frame_arrivals s.worker f) (arrivals_in s.worker fs), length-append (frame_arrivals s.worker f) (arrivals_in s.worker fs))

pub chains_taken : (s : Setting) (took : List (List HandoffFrame)) → AllByRecursion (AllByRecursion (MayTake s.graph s.generation)) took
    → sum_by pieces_before (taken_arrivals s.worker took) ≤ 5 * length (taken_arrivals s.worker took)
chains_taken s [] all = omega arith
chains_taken s (t ∷ ts) all =
    let rest = chains_taken s ts all.1 in
    let one = chains_in s t all.0 in
    omega (arith, rest, one, sum_by-append pieces_before (arrivals_in s.worker t) (taken_arrivals s.worker ts), length-append (arrivals_in s.worker t) (taken_arrivals s.worker ts))

-- a frame was tried of one more queue
pub tried_set : (may : (packets bytes : ℕ) → HandoffFrame → Type 0) (p b p' b' : ℕ) (os ns : List Queue) (ts : List (List HandoffFrame)) (t : List HandoffFrame) (q d : Queue) → p' ≡ p + sum_by packets_in ts → b' ≡ b + sum_by extents_in ts → length ts < length os
    → AreTaken os ns ts → AreTried may p b os ns ts → Tries (may p' b') (intake_of (get_or os (length ts) d)) t (intake_of q) → AreTried may p b os (set ns (length ts) q) (ts ++ t ∷ [])
tried_set may p b p' b' [] ns ts t q d ps bs inside taken all one = absurd (omega (arith, inside))
tried_set may p b p' b' (o ∷ os) [] ts t q d ps bs inside taken all one = absurd taken
tried_set may p b p' b' (o ∷ os) (n ∷ ns) [] t q d ps bs inside taken all one =
    (subst (λ x. Tries (may x b) (intake_of o) t (intake_of q)) (let e : p' ≡ p = omega (arith, ps) in e) (subst (λ x. Tries (may p' x) (intake_of o) t (intake_of q)) (let e : b' ≡ b = omega (arith, bs) in e) one), tt)
tried_set may p b p' b' (o ∷ os) (n ∷ ns) (u ∷ us) t q d ps bs inside taken all one =
    let e = sum_by-cons packets_in u us in let f = sum_by-cons extents_in u us in
    (all.0, tried_set may (p + packets_in u) (b + extents_in u) p' b' os ns us t q d (omega (arith, ps, e)) (omega (arith, bs, f)) (omega (arith, inside)) taken.2 all.1 one)

-- what each try comes to
pub tries_nothing : (may : HandoffFrame → Type 0) (old new : Queue) → old.waits ≡ None → new ≡ record old { trail = found tail_word (length old.taken) ∷ old.trail } → Tries may (intake_of old) [] (intake_of new)
tries_nothing may old new none is =
    subst (λ w. Leaves may (intake_of old) w new.trail) (sym (ap (λ (q : Queue). q.waits) is ∙ none)) (none, ap (λ (q : Queue). q.trail) is)

pub tries_waits : (may : HandoffFrame → Type 0) (old new : Queue) (frame : HandoffFrame) (trail : List Found) → new.waits ≡ Some frame → new.trail ≡ trail → Comes old.waits old.taken old.trail frame trail → IsHandFrame frame → (may frame → ⊥)
    → Tries may (intake_of old) [] (intake_of new)
tries_waits may old new frame trail waits same comes kept not =
    subst (λ w. Leaves may (intake_of old) w new.trail) (sym waits) (subst (Comes old.waits old.taken old.trail frame) (sym same) comes, kept, not)

-- the packets of frames, and their bytes, by how they come
arrivals_length : (worker : ℕ) (frames : List HandoffFrame) → length (arrivals_in worker frames) ≡ packets_in frames
arrivals_length worker [] = refl
arrivals_length worker (f ∷ fs) =
    let rest = arrivals_length worker fs in
    omega (arith, rest, length-append (frame_arrivals worker f) (arrivals_in worker fs), frame_length worker f, sum_by-cons (λ (frame : HandoffFrame). length frame.packets) f fs)

arrivals_weight : (worker : ℕ) (frames : List HandoffFrame) → arrivals_extent (arrivals_in worker frames) ≡ extents_in frames
arrivals_weight worker [] = refl
arrivals_weight worker (f ∷ fs) =
    let rest = arrivals_weight worker fs in
    omega (arith, rest, sum_by-append arrival_extent (frame_arrivals worker f) (arrivals_in worker fs), frame_weight worker f.node f.packets, sum_by-cons frame_extent f fs)

pub taken_packets : (worker : ℕ) (took : List (List HandoffFrame)) → length (taken_arrivals worker took) ≡ sum_by packets_in took
taken_packets worker [] = refl
taken_packets worker (t ∷ ts) =
    let rest = taken_packets worker ts in
    omega (arith, rest, length-append (arrivals_in worker t) (taken_arrivals worker ts), arrivals_length worker t, sum_by-cons packets_in t ts)

pub taken_bytes : (worker : ℕ) (took : List (List HandoffFrame)) → arrivals_extent (taken_arrivals worker took) ≡ sum_by extents_in took
taken_bytes worker [] = refl
taken_bytes worker (t ∷ ts) =
    let rest = taken_bytes worker ts in
    omega (arith, rest, sum_by-append arrival_extent (arrivals_in worker t) (taken_arrivals worker ts), arrivals_weight worker t, sum_by-cons extents_in t ts)

-- so many queues were tried
pub record IsTaking (s : Setting) (bounds : Bounds) (tried : ℕ) (old : Work) (queues : List Queue) (k : ℕ) (new : Work) (new_queues : List Queue) (came : Came) : Type 0 where
  pub took : List (List HandoffFrame)
  pub size : length took ≡ k
  pub one : AllByRecursion (λ (frames : List HandoffFrame). length frames ≤ 1) took
  pub may : AllByRecursion (AllByRecursion (MayTake s.graph s.generation)) took
  pub taken : AreTaken queues new_queues took
  pub tries : AreTried (MayComeNext s bounds (length old.fates.items) (vec_len old.bytes)) 0 0 queues new_queues took
  pub entered : (cache : CacheBook) → IsSmall tried cache → IsEntered s (taken_arrivals s.worker took) old cache new cache
  pub count_is : length (taken_arrivals s.worker took) ≡ came.count
  pub bytes_is : arrivals_extent (taken_arrivals s.worker took) ≡ came.bytes
  pub few : came.count ≤ 256 * k
  pub within : bounds.taken + came.count ≤ 3 * bounds.packets
  pub fates : length old.fates.items + came.count + bounds.own ≤ bounds.packets
  pub bytes_most : vec_len old.bytes + came.bytes + bounds.left ≤ bounds.bytes

-- there is room for packets of frames
pub taken_ready : (packets bytes came own left tried : ℕ) (arrivals : List Arrival) (w : Work) (cache : CacheBook) → IsAtRest packets bytes came own left w → tried ≤ 7 → length arrivals ≤ 256 * tried → sum_by pieces_before arrivals ≤ 5 * length arrivals
    → length w.fates.items + length arrivals + own ≤ packets → vec_len w.bytes + arrivals_extent arrivals + left ≤ bytes → IsSmall tried cache → IsReady arrivals w cache
taken_ready packets bytes came own left tried arrivals w cache rest few many chains within fits small =
    let len = small.len in
    ready_of packets bytes came own left arrivals w cache rest (omega (arith, few, many)) (omega (arith, within)) (omega (arith, fits)) (omega (arith, len, many, chains)) small.allocated small.freed

pub taking_none : (s : Setting) (bounds : Bounds) (tried came : ℕ) (old : Work) (queues : List Queue) (zero_came : Came) → tried ≤ 7 → IsAtRest bounds.packets bounds.bytes came bounds.own bounds.left old → bounds.taken ≤ 3 * bounds.packets
    → zero_came.count ≡ 0 → zero_came.bytes ≡ 0 → IsTaking s bounds tried old queues 0 old queues zero_came
taking_none s bounds tried came old queues zero_came few rest taken no_count no_bytes =
    let logged = rest.logged in let kept = rest.kept in
    record {
      took = [];
      size = refl;
      one = tt;
      may = tt;
      taken = taken_none queues;
      tries = tt;
      entered = λ cache small. entered_none s [] old cache (taken_ready bounds.packets bounds.bytes came bounds.own bounds.left tried [] old cache rest few (omega arith) (omega arith) (omega (arith, logged)) (omega (arith, kept)) small);
      count_is = sym no_count;
      bytes_is = sym no_bytes;
      few = omega (arith, no_count);
      within = omega (arith, taken, no_count);
      fates = omega (arith, logged, no_count);
      bytes_most = omega (arith, kept, no_bytes);
    }

all_push : {X : Type 0} (P : X → Type 0) (xs : List X) (x : X) → AllByRecursion P xs → P x → AllByRecursion P (xs ++ x ∷ [])
all_push P [] x all one = (one, tt)
all_push P (y ∷ ys) x all one = (all.0, all_push P ys x all.1 one)

tries_more : (s : Setting) (bounds : Bounds) (tried : ℕ) (old : Work) (queues : List Queue) (k : ℕ) (new : Work) (new_queues : List Queue) (came : Came) (queue d : Queue) (frames : List HandoffFrame) → k < length queues
    → Tries (MayComeNext s bounds (length old.fates.items) (vec_len old.bytes) came.count came.bytes) (intake_of (get_or new_queues k d)) frames (intake_of queue)
    → (t : IsTaking s bounds tried old queues k new new_queues came) → AreTried (MayComeNext s bounds (length old.fates.items) (vec_len old.bytes)) 0 0 queues (set new_queues k queue) (t.took ++ frames ∷ [])
tries_more s bounds tried old queues k new new_queues came queue d frames inside tries t =
    let may : (packets bytes : ℕ) → HandoffFrame → Type 0 = MayComeNext s bounds (length old.fates.items) (vec_len old.bytes) in
    let n = t.size in
    let count = taken_packets s.worker t.took in let weight = taken_bytes s.worker t.took in
    let count_is = t.count_is in let bytes_is = t.bytes_is in
    let within : length t.took < length queues = omega (arith, n, inside) in
    let here : get_or new_queues k d ≡ get_or queues (length t.took) d = ap (λ i. get_or new_queues i d) (sym n) ∙ taken_at queues new_queues t.took d within t.taken in
    subst (λ i. AreTried may 0 0 queues (set new_queues i queue) (t.took ++ frames ∷ [])) n
    (tried_set may 0 0 came.count came.bytes queues new_queues t.took frames queue d (omega (arith, count, count_is)) (omega (arith, weight, bytes_is)) within t.taken t.tries
    (subst (λ (q : Queue). Tries (may came.count came.bytes) (intake_of q) frames (intake_of queue)) here tries))

-- nothing is taken from the next queue
pub taking_pass : (s : Setting) (bounds : Bounds) (tried : ℕ) (old : Work) (queues : List Queue) (k : ℕ) (new : Work) (new_queues : List Queue) (came : Came) (queue d : Queue) → k < length queues → queue.ring ≡ (get_or new_queues k d).ring → queue.taken ≡ (get_or new_queues k d).taken
    → Tries (MayComeNext s bounds (length old.fates.items) (vec_len old.bytes) came.count came.bytes) (intake_of (get_or new_queues k d)) [] (intake_of queue)
    → IsTaking s bounds tried old queues k new new_queues came → IsTaking s bounds tried old queues (k + 1) new (set new_queues k queue) came
taking_pass s bounds tried old queues k new new_queues came queue d inside ring same tries t = record {
  took = t.took ++ [] ∷ [];
  size = (let n = t.size in let m = length-append t.took ([] ∷ []) in omega (arith, n, m));
  one = all_push (λ (frames : List HandoffFrame). length frames ≤ 1) t.took [] t.one (omega arith);
  may = all_push (AllByRecursion (MayTake s.graph s.generation)) t.took [] t.may tt;
  taken = subst (λ n. AreTaken queues (set new_queues n queue) (t.took ++ [] ∷ [])) t.size
      (taken_set queues new_queues t.took [] queue d (let n = t.size in omega (arith, n, inside)) (ring ∙ ap (λ n. (get_or new_queues n d).ring) (sym t.size))
      (same ∙ ap (λ n. (get_or new_queues n d).taken) (sym t.size) ∙ sym (append-nil (get_or new_queues (length t.took) d).taken)) t.taken);
  tries = tries_more s bounds tried old queues k new new_queues came queue d [] inside tries t;
  entered = λ cache small. subst (λ es. IsEntered s es old cache new cache) (sym (arrivals_without s.worker t.took)) (t.entered cache small);
  count_is = ap length (arrivals_without s.worker t.took) ∙ t.count_is;
  bytes_is = ap arrivals_extent (arrivals_without s.worker t.took) ∙ t.bytes_is;
  few = (let h = t.few in omega (arith, h));
  within = t.within;
  fates = t.fates;
  bytes_most = t.bytes_most;
}

pub taking_ready : (s : Setting) (bounds : Bounds) (tried came_before : ℕ) (old : Work) (queues : List Queue) (k : ℕ) (new : Work) (new_queues : List Queue) (came : Came) (frame : HandoffFrame) (cache : CacheBook) → tried ≤ 7 → k < tried
    → IsAtRest bounds.packets bounds.bytes came_before bounds.own bounds.left old → IsHandFrame frame → IsWithinLog bounds came (length old.fates.items) (vec_len old.bytes) frame → IsSmall tried cache
    → (t : IsTaking s bounds tried old queues k new new_queues came) → IsReady (taken_arrivals s.worker t.took ++ frame_arrivals s.worker frame) old cache
taking_ready s bounds tried came_before old queues k new new_queues came frame cache few inside rest kept within small t =
    let so_far : List Arrival = taken_arrivals s.worker t.took in
    let more : List Arrival = frame_arrivals s.worker frame in
    let n = length-append so_far more in let m = frame_length s.worker frame in let c = t.count_is in
    let bytes = sum_by-append arrival_extent so_far more in let weight = frame_weight s.worker frame.node frame.packets in let b = t.bytes_is in
    let all = sum_by-append pieces_before so_far more in let c1 = chains_taken s t.took t.may in let c2 = chains_of s.worker frame.node frame.packets kept.chains in
    let most = kept.few in let so_few = t.few in
    let f = within.fates in let y = within.bytes_most in
    taken_ready bounds.packets bounds.bytes came_before bounds.own bounds.left tried (so_far ++ more) old cache rest few (omega (arith, n, m, c, most, so_few, inside)) (omega (arith, all, c1, c2, n, m)) (omega (arith, n, m, c, f)) (omega (arith, bytes, weight, b, y)) small

-- the frames taken so far are under way
abbrev pub underway_taken : (s : Setting) (bounds : Bounds) (tried came_before : ℕ) (old : Work) (queues : List Queue) (k : ℕ) (new : Work) (new_queues : List Queue) (came : Came) (frame : HandoffFrame) (cache : CacheBook) → tried ≤ 7 → k < tried
    → IsAtRest bounds.packets bounds.bytes came_before bounds.own bounds.left old → IsHandFrame frame → IsWithinLog bounds came (length old.fates.items) (vec_len old.bytes) frame → IsSmall tried cache
    → (t : IsTaking s bounds tried old queues k new new_queues came) → IsUnderway s (frame_arrivals s.worker frame) new cache
underway_taken s bounds tried came_before old queues k new new_queues came frame cache few inside rest kept within small t = record {
  before = taken_arrivals s.worker t.took;
  start = old;
  start_cache = cache;
  ready = taking_ready s bounds tried came_before old queues k new new_queues came frame cache few inside rest kept within small t;
  entered = t.entered cache small;
}

-- the next queue's frame is taken
pub taking_more : (s : Setting) (bounds : Bounds) (tried : ℕ) (old : Work) (queues : List Queue) (k : ℕ) (w new : Work) (new_queues : List Queue) (came more : Came) (queue d : Queue) (frame : HandoffFrame) → k < length queues → queue.ring ≡ (get_or new_queues k d).ring
    → queue.taken ≡ (get_or new_queues k d).taken ++ frame ∷ [] → MayTake s.graph s.generation frame → IsWithinLog bounds came (length old.fates.items) (vec_len old.bytes) frame → more.count ≡ came.count + length frame.packets → more.bytes ≡ came.bytes + frame_extent frame
    → Comes (get_or new_queues k d).waits (get_or new_queues k d).taken (get_or new_queues k d).trail frame queue.trail → queue.waits ≡ None
    → (t : IsTaking s bounds tried old queues k w new_queues came) → ((cache : CacheBook) → IsSmall tried cache → IsEntered s (taken_arrivals s.worker t.took ++ frame_arrivals s.worker frame) old cache new cache)
    → IsTaking s bounds tried old queues (k + 1) new (set new_queues k queue) more
taking_more s bounds tried old queues k w new new_queues came more queue d frame inside ring taken may within count bytes comes waits t entered = record {
  took = t.took ++ (frame ∷ []) ∷ [];
  size = (let n = t.size in let m = length-append t.took ((frame ∷ []) ∷ []) in omega (arith, n, m));
  one = all_push (λ (frames : List HandoffFrame). length frames ≤ 1) t.took (frame ∷ []) t.one (omega arith);
  may = all_push (AllByRecursion (MayTake s.graph s.generation)) t.took (frame ∷ []) t.may (may, tt);
  taken = subst (λ n. AreTaken queues (set new_queues n queue) (t.took ++ (frame ∷ []) ∷ [])) t.size
      (taken_set queues new_queues t.took (frame ∷ []) queue d (let n = t.size in omega (arith, n, inside)) (ring ∙ ap (λ n. (get_or new_queues n d).ring) (sym t.size))
      (taken ∙ ap (λ n. (get_or new_queues n d).taken ++ frame ∷ []) (sym t.size)) t.taken);
  tries = tries_more s bounds tried old queues k w new_queues came queue d (frame ∷ []) inside (comes, (may, within), waits) t;
  entered = λ cache small. subst (λ es. IsEntered s es old cache new cache) (sym (arrivals_with s.worker t.took frame)) (entered cache small);
  count_is = ap length (arrivals_with s.worker t.took frame)
      ∙ (let n = length-append (taken_arrivals s.worker t.took) (frame_arrivals s.worker frame) in let m = frame_length s.worker frame in let c = t.count_is in omega (arith, n, m, c, count));
  bytes_is = ap arrivals_extent (arrivals_with s.worker t.took frame)
      ∙ (let n = sum_by-append arrival_extent (taken_arrivals s.worker t.took) (frame_arrivals s.worker frame) in let m = frame_weight s.worker frame.node frame.packets in let c = t.bytes_is in omega (arith, n, m, c, bytes));
  few = (let h = t.few in let most = may.kept.few in omega (arith, h, most, count));
  within = (let h = within.taken in omega (arith, h, count));
  fates = (let h = within.fates in omega (arith, h, count));
  bytes_most = (let h = within.bytes_most in omega (arith, h, bytes));
}

pub taking_all : (s : Setting) (bounds : Bounds) (tried : ℕ) (old : Work) (queues : List Queue) (k : ℕ) (new : Work) (new_queues : List Queue) (came : Came) → k ≡ tried → IsTaking s bounds tried old queues k new new_queues came → TakesFrames s bounds tried old queues new new_queues came
taking_all s bounds tried old queues k new new_queues came most t = record {
  took = t.took;
  size = t.size ∙ most;
  one = t.one;
  may = t.may;
  taken = t.taken;
  tries = t.tries;
  entered = t.entered;
  count_is = t.count_is;
  bytes_is = t.bytes_is;
  few = (let h = t.few in let n = t.size in omega (arith, h, n));
  within = t.within;
  fates = t.fates;
  bytes_most = t.bytes_most;
}
