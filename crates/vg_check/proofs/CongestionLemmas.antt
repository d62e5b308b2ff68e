-- For `lossless_queues_send_all`: where no queue refuses a packet, and no node drops one by congestion, no packet is dropped by congestion.
use Rattle.std.proofs.Common.{◌≡◌, ◌≢◌, ℕ, zero, suc, Bool, true, false, List, [], ◌∷◌, length, map, refl, sym, subst}
use Rattle.std.specs.Prelude.{Option, Some, None, option_map, nat_lt, slice_get, ◌%◌, ◌==◌, if◌then◌else◌}
use Rattle.std.specs.List.{AllByRecursion}
use Rattle.std.proofs.lemmas.Bool.{false≢true}
use Rattle.std.proofs.lemmas.Option.{none-some, same_Some}
use Rattle.vg_model.specs.declared.kinds.DropError.TheVariants as errors
use Rattle.vg_model.specs.declared.kinds.Step.{Step}
use Rattle.vg_model.specs.declared.kinds.Step.TheVariants as steps
use Rattle.vg_model.specs.Packet.{Packet, fresh}
use Rattle.vg_model.specs.Graph.{Graph, arc, pg_input, handoff_dequeue}
use Rattle.vg_model.specs.Hash.{target_worker}
use Rattle.vg_model.specs.Visit.{Visit}
use Rattle.vg_model.specs.Valid.{IsValid}
use Rattle.vg_model.specs.Leg.{Outcome, Sent, Dropped, Handed, Way, Move, Onward, Over, handed, move_of, joined, after_visit, leg_within, most_legs, first_slot, ends_at}
use Rattle.vg_model.specs.Journey.{Journey, Course, Choice, journey, journeys, journeys_from, started, first_leg, leg_from, legs_from, handed_over, then_course, longest_packet, goes_together, end_of}
use Rattle.vg_model.proofs.Journeys.{map_some, then_some}
use Rattle.vg_capture.specs.declared.captures.Capture.{Capture}
use Rattle.vg_report.specs.declared.reports.Report.{Report}
use Rattle.vg_report.specs.declared.reports.PacketLine.{PacketLine}
use Rattle.vg_report.specs.declared.reports.PacketEnd.{PacketEnd}
use Rattle.vg_report.specs.declared.reports.PacketEnd.TheVariants as ends
use Rattle.vg_check.specs.Output.{Setting, IsOutput, report_of, choices_of, frames_of, named_end, packet_line_of, last_graph}
use Rattle.vg_check.specs.OneWorker.{alone, IsOwnEnd, HasOwnEnds}
use Rattle.vg_check.specs.Congestion.{IsOwnStep, NeverCongests, IsNoDropBy, NamesNoDropBy, NamesNoRefusal}
use Rattle.vg_check.proofs.JourneyLemmas.{IsCountedEnd, journey_has}
use Rattle.vg_check.proofs.AlikeLemmas.{sends_alike}

-- ---- legs

-- an end that is no drop by congestion, or a packet that is handed over
abbrev pub IsOwnLast : Outcome → Type 0
IsOwnLast (Sent interface) = Unit {0}
IsOwnLast (Dropped node error) = error ≢ errors.Congestion
IsOwnLast (Handed node worker) = Unit {0}

abbrev IsOwnMove : Move → Type 0
IsOwnMove (Onward to) = Unit {0}
IsOwnMove (Over outcome) = IsOwnLast outcome

own_handed : (g : Graph) (worker leg_number node target : ℕ) → IsOwnMove (handed g worker leg_number node target)
own_handed g worker leg_number node target = by_test (target == worker) (leg_number == most_legs)
  where
    by_test : (here last : Bool) → IsOwnMove (if here then Onward (arc g node first_slot) else if last then Over (Dropped node errors.HandoffLimit) else Over (Handed node target))
    by_test true last = tt
    by_test false true = λ e. cc
    by_test false false = tt

own_move : (g : Graph) (workers worker leg_number node : ℕ) (step : Step) → IsOwnStep step → IsOwnMove (move_of g workers worker leg_number node step)
own_move g workers worker leg_number node (steps.Next slot) own = tt
own_move g workers worker leg_number node (steps.Tx interface) own = tt
own_move g workers worker leg_number node (steps.Dropped error) own = own
own_move g workers worker leg_number node (steps.Hand hash) own = own_handed g worker leg_number node (target_worker workers hash)

own_joined : (node : ℕ) (p : Packet) (move : Move) (go_on : ℕ → Option Way) (way : Way) → IsOwnMove move
    → ((to : ℕ) (rest : Way) → go_on to ≡ Some rest → IsOwnLast rest.outcome) → joined node p move go_on ≡ Some way → IsOwnLast way.outcome
own_joined node p (Over outcome) go_on way own later e = subst (λ (w : Way). IsOwnLast w.outcome) (same_Some _ _ e) own
own_joined node p (Onward None) go_on way own later e = absurd (none-some way e)
own_joined node p (Onward (Some to)) go_on way own later e =
    let rest = map_some (after_visit node) (go_on to) way e in
    subst (λ (w : Way). IsOwnLast w.outcome) rest.2 (later to rest.0 rest.1)

module _ (visit : Visit) (never : NeverCongests visit) (workers : ℕ) where
  own_within : (g : Graph) (worker leg_number visits node : ℕ) (p : Packet) (way : Way) → leg_within visit g workers worker leg_number visits node p ≡ Some way
      → IsOwnLast way.outcome
  own_within g worker leg_number zero node p way e = absurd (none-some way e)
  own_within g worker leg_number (suc visits) node p way e =
      own_joined node (visit g node p).1 (move_of g workers worker leg_number node (visit g node p).0)
      (λ to. leg_within visit g workers worker leg_number visits to (visit g node p).1) way
      (own_move g workers worker leg_number node (visit g node p).0 (never g node p))
      (λ to rest h. own_within g worker leg_number visits to (visit g node p).1 rest h) e

  own_from : (g : Graph) (worker leg_number first via : ℕ) (p : Packet) (way : Way) → leg_from visit g workers worker leg_number first via p ≡ Some way → IsOwnLast way.outcome
  own_from g worker leg_number first via p way e =
      let rest = map_some (after_visit first) _ way e in
      let start = then_some _ (arc g via first_slot) rest.0 rest.1 in
      subst (λ (w : Way). IsOwnLast w.outcome) rest.2 (own_within g worker leg_number (length g.nodes) start.0 p rest.0 start.2)

  own_first : (g : Graph) (worker : ℕ) (p : Packet) (way : Way) → first_leg visit g workers worker p ≡ Some way → IsOwnLast way.outcome
  own_first g worker p way e = by_length (nat_lt longest_packet (length p.bytes)) e
    where
      by_length : (long : Bool) → (if long then Some (ends_at pg_input p (Dropped pg_input errors.TooLong)) else leg_from visit g workers worker 1 pg_input pg_input p) ≡ Some way
          → IsOwnLast way.outcome
      by_length true e =
          let own : IsOwnLast (Dropped pg_input errors.TooLong) = λ e. cc in
          subst (λ (w : Way). IsOwnLast w.outcome) (same_Some _ _ e) own
      by_length false e = own_from g worker 1 pg_input pg_input p way e

  -- ---- courses

  own_legs : (graphs : List Graph) (worker leg_number generation : ℕ) (later : List ℕ) (o : Option Way) (course : Course) → ((way : Way) → o ≡ Some way → IsOwnLast way.outcome)
      → legs_from visit graphs workers worker leg_number generation later o ≡ Some course → IsOwnLast course.outcome
  own_legs graphs worker leg_number generation [] None course own e = absurd (none-some course e)
  own_legs graphs worker leg_number generation (g ∷ later) None course own e = absurd (none-some course e)
  own_legs graphs worker leg_number generation [] (Some way) course own e = subst (λ (c : Course). IsOwnLast c.outcome) (same_Some _ _ e) (own way refl)
  own_legs graphs worker leg_number generation (g ∷ later) (Some way) course own e =
      let s1 = map_some (then_course (record { worker = worker; generation = generation }) way) _ course e in
      let s2 = then_some _ (handed_over way.outcome) s1.0 s1.1 in
      let s3 = then_some _ (slice_get graphs g) s1.0 s2.2 in
      let rest = own_legs graphs s2.0.1 (suc leg_number) g later (leg_from visit s3.0 workers s2.0.1 (suc leg_number) handoff_dequeue s2.0.0 way.packet) s1.0
      (λ w f. own_from s3.0 s2.0.1 (suc leg_number) handoff_dequeue s2.0.0 way.packet w f) s3.2 in
      subst (λ (c : Course). IsOwnLast c.outcome) s1.2 rest

  own_course : (graphs : List Graph) (number : ℕ) (bytes gs : List ℕ) (course : Course) → started visit graphs workers number bytes gs ≡ Some course → IsOwnLast course.outcome
  own_course graphs number bytes [] course e = absurd (none-some course e)
  own_course graphs number bytes (g ∷ later) course e =
      let s = then_some _ (slice_get graphs g) course e in
      own_legs graphs (number % workers) 1 g later _ course (λ w f. own_first s.0 (number % workers) (fresh number bytes) w f) s.2

  -- ---- packets

  -- a drop by congestion stands exactly with a count of a queue that was full
  counted_end : (accepted : Option ℕ) (o : Outcome) → IsOwnLast o → goes_together accepted o ≡ true → IsCountedEnd accepted (end_of o)
  counted_end None (Sent interface) own t = refl
  counted_end None (Dropped node error) own t = (λ some. absurd (false≢true some), λ e. absurd (own e))
  counted_end None (Handed node worker) own t = absurd (false≢true t)
  counted_end (Some count) (Sent interface) own t = absurd (false≢true t)
  counted_end (Some count) (Dropped node error) own t = absurd (false≢true t)
  counted_end (Some count) (Handed node worker) own t = (λ some. refl, λ e. refl)

  counted_from : (graphs : List Graph) (number : ℕ) (packets : List (List ℕ)) (choices : List Choice) (js : List Journey) → journeys_from visit graphs workers number packets choices ≡ Some js
      → AllByRecursion (λ (j : Journey). IsCountedEnd j.accepted (end_of j.course.outcome)) js
  counted_from graphs number [] [] js e = subst (AllByRecursion (λ (j : Journey). IsCountedEnd j.accepted (end_of j.course.outcome))) (same_Some _ _ e) tt
  counted_from graphs number [] (choice ∷ choices) js e = absurd (none-some js e)
  counted_from graphs number (bytes ∷ packets) [] js e = absurd (none-some js e)
  counted_from graphs number (bytes ∷ packets) (choice ∷ choices) js e =
      let first = then_some (λ j. option_map (λ js. j ∷ js) (journeys_from visit graphs workers (suc number) packets choices)) (journey visit graphs workers number bytes choice) js e in
      let others = map_some (λ js. first.0 ∷ js) (journeys_from visit graphs workers (suc number) packets choices) js first.2 in
      let has = journey_has visit graphs workers number bytes choice first.0 first.1 in
      let here = counted_end first.0.accepted first.0.course.outcome (own_course graphs number bytes choice.generations first.0.course has.course) has.together in
      let rest = counted_from graphs (suc number) packets choices others.0 others.1 in
      subst (AllByRecursion (λ (j : Journey). IsCountedEnd j.accepted (end_of j.course.outcome))) others.2 (here, rest)

  pub counted_ends : (graphs : List Graph) (packets : List (List ℕ)) (choices : List Choice) (js : List Journey) → journeys visit graphs workers packets choices ≡ Some js
      → AllByRecursion (λ (j : Journey). IsCountedEnd j.accepted (end_of j.course.outcome)) js
  counted_ends graphs packets choices js e = counted_from graphs 0 packets choices js e

  no_congestion : (g : Graph) (accepted : Option ℕ) (o : Outcome) → IsOwnLast o → accepted ≡ None → goes_together accepted o ≡ true → IsNoDropBy errors.Congestion (named_end g (end_of o))
  no_congestion g accepted (Sent interface) own none t = tt
  no_congestion g accepted (Dropped node error) own none t = own
  no_congestion g None (Handed node worker) own none t = absurd (false≢true t)
  no_congestion g (Some count) (Handed node worker) own none t = absurd (none-some count (sym none))

  no_congestions : (graphs : List Graph) (g : Graph) (number : ℕ) (packets : List (List ℕ)) (choices : List Choice) (js : List Journey) → journeys_from visit graphs workers number packets choices ≡ Some js
      → AllByRecursion (λ (line : PacketLine). line.congested ≡ None) (map (packet_line_of g) js)
      → AllByRecursion (λ (line : PacketLine). IsNoDropBy errors.Congestion line.end) (map (packet_line_of g) js)
  no_congestions graphs g number [] [] js e none =
      subst (λ l. AllByRecursion (λ (line : PacketLine). IsNoDropBy errors.Congestion line.end) (map (packet_line_of g) l)) (same_Some _ _ e) tt
  no_congestions graphs g number [] (choice ∷ choices) js e none = absurd (none-some js e)
  no_congestions graphs g number (bytes ∷ packets) [] js e none = absurd (none-some js e)
  no_congestions graphs g number (bytes ∷ packets) (choice ∷ choices) js e none =
      let first = then_some (λ j. option_map (λ js. j ∷ js) (journeys_from visit graphs workers (suc number) packets choices)) (journey visit graphs workers number bytes choice) js e in
      let others = map_some (λ js. first.0 ∷ js) (journeys_from visit graphs workers (suc number) packets choices) js first.2 in
      let all : AllByRecursion (λ (line : PacketLine). line.congested ≡ None) (map (packet_line_of g) (first.0 ∷ others.0)) =
      subst (λ l. AllByRecursion (λ (line : PacketLine). line.congested ≡ None) (map (packet_line_of g) l)) (sym others.2) none in
      let has = journey_has visit graphs workers number bytes choice first.0 first.1 in
      let here = no_congestion g first.0.accepted first.0.course.outcome (own_course graphs number bytes choice.generations first.0.course has.course) all.0 has.together in
      let rest = no_congestions graphs g (suc number) packets choices others.0 others.1 all.1 in
      let whole : AllByRecursion (λ (line : PacketLine). IsNoDropBy errors.Congestion line.end) (map (packet_line_of g) (first.0 ∷ others.0)) = (here, rest) in
      subst (λ l. AllByRecursion (λ (line : PacketLine). IsNoDropBy errors.Congestion line.end) (map (packet_line_of g) l)) others.2 whole

-- ---- reports

pub none_congested : (visit : Visit) (graphs : List Graph) (first : ℕ → ℕ) (setting : Setting) (capture : Capture) (report : Report) (tx : List ℕ) → NeverCongests visit
    → IsOutput visit graphs first setting capture report tx → NamesNoRefusal report → NamesNoDropBy errors.Congestion report
none_congested visit graphs first setting capture report tx never output none =
    let named : NamesNoRefusal (report_of setting graphs output.js) = subst NamesNoRefusal output.reported none in
    subst (NamesNoDropBy errors.Congestion) (sym output.reported)
    (no_congestions visit never setting.workers graphs (last_graph graphs) 0 (frames_of capture) (choices_of report) output.js output.lawful.are_journeys named)

-- a packet that is dropped neither by congestion nor by the limit of legs
own_end : (end : PacketEnd) → IsNoDropBy errors.Congestion end → IsNoDropBy errors.HandoffLimit end → IsOwnEnd end
own_end (ends.Tx interface) congestion limit = tt
own_end (ends.Dropped node error) congestion limit = (congestion, limit)

own_ends : (lines : List PacketLine) → AllByRecursion (λ (line : PacketLine). IsNoDropBy errors.Congestion line.end) lines
    → AllByRecursion (λ (line : PacketLine). IsNoDropBy errors.HandoffLimit line.end) lines → AllByRecursion (λ (line : PacketLine). IsOwnEnd line.end) lines
own_ends [] congestion limit = tt
own_ends (line ∷ lines) congestion limit = (own_end line.end congestion.0 limit.0, own_ends lines congestion.1 limit.1)

pub lossless_alike : (visit : Visit) (g : Graph) (first : ℕ → ℕ) (setting : Setting) (capture : Capture) (report : Report) (tx : List ℕ) → NeverCongests visit → IsValid g
    → IsOutput visit (g ∷ []) first setting capture report tx → NamesNoRefusal report → NamesNoDropBy errors.HandoffLimit report
    → (other : Report) × IsOutput visit (g ∷ []) first (alone setting) capture other tx
lossless_alike visit g first setting capture report tx never valid output none limit =
    let congestion = none_congested visit (g ∷ []) first setting capture report tx never output none in
    let own : HasOwnEnds report = own_ends report.packets congestion limit in
    sends_alike visit g first setting capture report tx valid output own
