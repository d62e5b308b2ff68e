-- For `ring`, `QueueTx::push`, `QueueRx::pop`, `Rest::next` and `close`: each call keeps the rule of the queue.
use Rattle.std.proofs.Common.{◌≡◌, ◌≢◌, ℕ, zero, suc, true, true≢false, List, [], ◌∷◌, ◌++◌, length, drop, set, sym, refl, ap, ◌∙◌, subst, ⊎_elim, append_assoc, arith}
use Rattle.std.specs.Prelude.{Option, Some, None, MatchOption, IfSome, IfNone}
use mathlib.Core.Option.{some, some-ne-none}
use lib.ListN.{get_elem?}
use Rattle.crossbeam_queue.specs.Fifo.{Pushes, Pops, Forks, Merges, Learns, Held}
use Rattle.crossbeam_queue.proofs.Lists.{at_set, at_snoc}
use Rattle.vg_queue.specs.declared.logs.Log.{Log}
use Rattle.vg_queue.specs.Rule.{Knows, IsLine, opening, producer_of, consumer_of, joined, spent, with_put, with_taken, TookOldest, HoldsLast, HoldsRest}

module _ {T : Type 0} where
  -- the last pass of a list that has one more
  at_end : (logs : List (Log T)) (a b : Log T) (j : ℕ) → get_elem? logs j ≢ some b → get_elem? (logs ++ a ∷ []) j ≡ some b → j ≡ length logs
  at_end [] a b zero n e = refl
  at_end [] a b (suc j) n e = absurd (some-ne-none b (sym e))
  at_end (x ∷ xs) a b zero n e = absurd (n e)
  at_end (x ∷ xs) a b (suc j) n e = ap suc (at_end xs a b j n e)

  abbrev Each : (ℕ → Log T → Type 0) → List (Log T) → Type 0
  Each F logs = (pass : ℕ) (log : Log T) → get_elem? logs pass ≡ some log → F pass log

  -- one pass knows something else, and all others what they knew
  each_set : (F : ℕ → Log T → Type 0) (logs : List (Log T)) (pass : ℕ) (log : Log T) → F pass log
      → ((j : ℕ) (other : Log T) → j ≢ pass → get_elem? logs j ≡ some other → F j other) → Each F (set logs pass log)
  each_set F logs pass log mine others j other e =
      ⊎_elim (λ (x : (j ≡ pass) × (log ≡ other)). subst (λ (y : ℕ × Log T). F y.0 y.1) (λ i. (sym x.0 i, x.1 i)) mine)
      (λ (x : (j ≢ pass) × (get_elem? logs j ≡ some other)). others j other x.0 x.1) (at_set logs pass j log other e)

  pub opens : IsLine {T = T} [] (opening ∷ [])
  opens = record {
    put = [];
    taken = [];
    producer = 0;
    consumer = 0;
    whole = refl;
    passes = each_set (Knows [] [] 0 0) (opening ∷ []) 0 opening (record { producer_knows = λ _. (refl, refl); consumer_knows = λ _. (refl, refl) })
        (λ j other apart e. absurd (apart (at_end [] opening other j (λ x. some-ne-none other (sym x)) e)));
  }

  pub puts : (n pass : ℕ) (log : Log T) (item : T) → log.puts ≡ true → Pushes IsLine n pass log item (λ after. after ≡ with_put log item)
  puts n pass log item may items logs room h at = let after : Log T = with_put log item in let mine = h.passes pass log at in let put = h.put ++ item ∷ [] in (
    after,
    record {
      put = put;
      taken = h.taken;
      producer = h.producer;
      consumer = h.consumer;
      whole = ap (λ l. l ++ item ∷ []) h.whole ∙ append_assoc h.taken items (item ∷ []);
      passes = each_set (Knows put h.taken h.producer h.consumer) logs pass after
          (record { producer_knows = λ _. ((mine.producer_knows may).0, ap (λ l. l ++ item ∷ []) (mine.producer_knows may).1); consumer_knows = mine.consumer_knows })
          (λ j other apart e. record {
            producer_knows = λ p. absurd (apart (((h.passes j other e).producer_knows p).0 ∙ sym (mine.producer_knows may).0));
            consumer_knows = (h.passes j other e).consumer_knows;
          });
    },
    refl,
  )

  pub takes : (pass : ℕ) (log : Log T) → log.takes ≡ true → Pops IsLine pass log (TookOldest log)
  takes pass log may item items logs h at = let after : Log T = with_taken log item in let mine = h.passes pass log at in let taken = h.taken ++ item ∷ [] in (
    after,
    record {
      put = h.put;
      taken = taken;
      producer = h.producer;
      consumer = h.consumer;
      whole = h.whole ∙ sym (append_assoc h.taken (item ∷ []) items);
      passes = each_set (Knows h.put taken h.producer h.consumer) logs pass after
          (record { producer_knows = mine.producer_knows; consumer_knows = λ _. ((mine.consumer_knows may).0, ap (λ l. l ++ item ∷ []) (mine.consumer_knows may).1) })
          (λ j other apart e. record {
            producer_knows = (h.passes j other e).producer_knows;
            consumer_knows = λ p. absurd (apart (((h.passes j other e).consumer_knows p).0 ∙ sym (mine.consumer_knows may).0));
          });
    },
    record {
      is = refl;
      oldest = λ both. (items, (mine.producer_knows both).1 ∙ h.whole ∙ ap (λ l. l ++ item ∷ items) (sym (mine.consumer_knows may).1));
    },
  )

  -- the producer learns that the queue holds the last of what it put
  pub last : (pass : ℕ) (log : Log T) → log.puts ≡ true → Learns IsLine pass log (HoldsLast log.put)
  last pass log may items logs h at = (h.taken, ((h.passes pass log at).producer_knows may).1 ∙ h.whole)

  -- who puts and takes learns what the queue holds
  pub rest : (pass : ℕ) (log : Log T) → log.takes ≡ true → Learns IsLine pass log (HoldsRest log)
  rest pass log may items logs h at = let mine = h.passes pass log at in
      λ both. (mine.producer_knows both).1 ∙ h.whole ∙ ap (λ l. l ++ items) (sym (mine.consumer_knows may).1)

  pub parts : (pass : ℕ) (log : Log T) → log.puts ≡ true → log.takes ≡ true → Forks IsLine pass log (producer_of log) (consumer_of log)
  parts pass log a b items logs h at = let l : Log T = producer_of log in let r : Log T = consumer_of log in let mine = h.passes pass log at in let cut : List (Log T) = set logs pass l in
      let Old : ℕ → Log T → Type 0 = λ j other. (other.puts ≡ true → (j ≡ h.producer) × (other.put ≡ h.put)) × (other.takes ≢ true) in
      let old : Each Old cut = each_set Old logs pass l (mine.producer_knows, λ p. true≢false (sym p))
      (λ j other apart e. ((h.passes j other e).producer_knows, λ p. apart (((h.passes j other e).consumer_knows p).0 ∙ sym (mine.consumer_knows b).0))) in
      record {
        put = h.put;
        taken = h.taken;
        producer = h.producer;
        consumer = length cut;
        whole = h.whole;
        passes = λ j other e. ⊎_elim
            (λ x. record { producer_knows = (old j other x).0; consumer_knows = λ p. absurd ((old j other x).1 p) })
            (λ (is : r ≡ other). record {
              producer_knows = λ p. absurd (true≢false (sym (ap (λ (y : Log T). y.puts) is ∙ p)));
              consumer_knows = λ p. (at_end cut r other j (λ x. (old j other x).1 p) e, ap (λ (y : Log T). y.taken) (sym is) ∙ (mine.consumer_knows b).1);
            }) (at_snoc cut r other j e);
      }

  pub comes : (pass : ℕ) (log : Log T) (sender : ℕ) (theirs : Log T) → log.takes ≡ true → theirs.puts ≡ true
      → Merges IsLine pass log sender theirs (joined log theirs) spent
  comes pass log sender theirs a b items logs h at two at' = let both : Log T = joined log theirs in let mine = h.passes pass log at in let cut : List (Log T) = set logs pass both in
      let was : get_elem? logs sender ≡ some theirs = ⊎_elim (λ x. absurd (two x.0)) (λ x. x.1) (at_set logs pass sender both theirs at') in
      let puts = (h.passes sender theirs was).producer_knows b in
      let Now : ℕ → Log T → Type 0 = λ j other. j ≢ sender → Knows h.put h.taken pass h.consumer j other in
      let now : Each Now cut = each_set Now logs pass both (λ _. record { producer_knows = λ _. (refl, puts.1); consumer_knows = mine.consumer_knows })
      (λ j other _ e apart. record {
        producer_knows = λ p. absurd (apart (((h.passes j other e).producer_knows p).0 ∙ sym puts.0));
        consumer_knows = (h.passes j other e).consumer_knows;
      }) in
      record {
        put = h.put;
        taken = h.taken;
        producer = pass;
        consumer = h.consumer;
        whole = h.whole;
        passes = each_set (Knows h.put h.taken pass h.consumer) cut sender spent
            (record { producer_knows = λ p. absurd (true≢false (sym p)); consumer_knows = λ p. absurd (true≢false (sym p)) })
            (λ j other apart e. now j other e apart);
      }

  -- ---- what is left, as one more is taken

  drop_front : (front back : List T) → drop (length front) (front ++ back) ≡ back
  drop_front [] back = refl
  drop_front (x ∷ front) back = drop_front front back

  left_of : (put taken later : List T) → put ≡ taken ++ later → drop (length taken) put ≡ later
  left_of put taken later e = ap (drop (length taken)) e ∙ drop_front taken later

  -- who puts and takes took the oldest item that was left
  pub record OneLess (log after : Log T) (item : T) : Type 0 where
    pub puts : after.puts ≡ log.puts
    pub takes : after.takes ≡ log.takes
    pub put : after.put ≡ log.put
    pub prefix : after.put ≡ after.taken ++ drop (length after.taken) after.put
    pub left : drop (length log.taken) log.put ≡ item ∷ drop (length after.taken) after.put

  one_less_by : (log : Log T) (item : T) (later : List T) → log.put ≡ log.taken ++ item ∷ later → OneLess log (with_taken log item) item
  one_less_by log item later e =
      let all : log.put ≡ (log.taken ++ item ∷ []) ++ later = e ∙ sym (append_assoc log.taken (item ∷ []) later) in
      let rest = left_of log.put (log.taken ++ item ∷ []) later all in
      record {
        puts = refl;
        takes = refl;
        put = refl;
        prefix = all ∙ ap (λ l. (log.taken ++ item ∷ []) ++ l) (sym rest);
        left = left_of log.put log.taken (item ∷ later) e ∙ ap (λ l. item ∷ l) (sym rest);
      }

  pub one_less : (log after : Log T) (item : T) → log.puts ≡ true → TookOldest log item after → OneLess log after item
  one_less log after item puts took =
      let oldest = took.oldest puts in
      subst (λ a. OneLess log a item) (sym took.is) (one_less_by log item oldest.0 oldest.1)

  nil_of : (items : List T) → length items ≡ 0 → items ≡ []
  nil_of [] e = refl
  nil_of (x ∷ items) e = absurd (omega arith)

  -- the queue held nothing, so nothing is left
  pub none_left : (log : Log T) → log.puts ≡ true → Held 0 (HoldsRest log) → drop (length log.taken) log.put ≡ []
  none_left log puts held = left_of log.put log.taken held.0 (held.2 puts) ∙ nil_of held.0 held.1

  -- what a pop by the pass that puts and takes leaves, whatever it answers
  pub record IsNext (log after : Log T) (answer : Option T) : Type 0 where
    pub puts : after.puts ≡ true
    pub takes : after.takes ≡ true
    pub put : after.put ≡ log.put
    pub prefix : after.put ≡ after.taken ++ drop (length after.taken) after.put
    pub item : IfSome answer (λ item. drop (length log.taken) log.put ≡ item ∷ drop (length after.taken) after.put)
    pub none : IfNone answer ((drop (length log.taken) log.put ≡ []) × (drop (length after.taken) after.put ≡ []))

  pub next : (log after : Log T) (answer : Option T) → log.puts ≡ true → log.takes ≡ true → log.put ≡ log.taken ++ drop (length log.taken) log.put
      → MatchOption answer ((after ≡ log) × Held 0 (HoldsRest log)) (λ item. TookOldest log item after) → IsNext log after answer
  next log after None puts takes prefix (same, held) =
      let nothing = none_left log puts held in
      subst (λ a. IsNext log a None) (sym same) (record { puts = puts; takes = takes; put = refl; prefix = prefix; item = tt; none = (nothing, nothing) })
  next log after (Some item) puts takes prefix took =
      let less = one_less log after item puts took in
      record { puts = less.puts ∙ puts; takes = less.takes ∙ takes; put = less.put; prefix = less.prefix; item = less.left; none = tt }
