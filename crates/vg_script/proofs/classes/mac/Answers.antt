use Rattle.std.proofs.Common.{ℕ, List, [], ◌∷◌, sym, ap, ◌∙◌}
use Rattle.std.specs.Prelude.{option_map}
use Rattle.vg_model.specs.declared.names.Mac.{Mac}
use Rattle.vg_script.specs.Classes.{pair_of}
use Rattle.vg_script.proofs.ClassLemmas.{IsCutAt, IsParted, parted_step, parted_last, each_none, each_some, each_end, parts_have}
use Rattle.vg_script.proofs.classes.mac.Goals as goal

-- an address of these bytes
abbrev of_bytes : List ℕ → Mac
of_bytes bytes = record { 0 = bytes }

-- a word that is cut at five marks has the class of its six parts
in_six : (word : List ℕ) {one two three four five six behind behind-2 behind-3 behind-4 : List ℕ} → IsCutAt 58 word one behind → IsCutAt 58 behind two behind-2 → IsCutAt 58 behind-2 three behind-3
    → IsCutAt 58 behind-3 four behind-4 → IsCutAt 58 behind-4 five six → IsParted 58 pair_of 5 word (one ∷ two ∷ three ∷ four ∷ five ∷ six ∷ [])
in_six word a b c d e = parted_step a (parted_step b (parted_step c (parted_step d (parted_step e parted_last))))

pub returns-in_err-pair-2 : goal.returns-in_err-pair-2
returns-in_err-pair-2 c =
    c.from_residual-in_err-pair-2.ensures
    ∙ sym (ap (option_map of_bytes) (parts_have (in_six c.args.word.now
    (record { before = c.split_at_first.ensures.before; after = c.split_at_first.ensures.after }) (record { before = c.split_at_first-2.ensures.before; after = c.split_at_first-2.ensures.after })
    (record { before = c.split_at_first-3.ensures.before; after = c.split_at_first-3.ensures.after }) (record { before = c.split_at_first-4.ensures.before; after = c.split_at_first-4.ensures.after })
    (record { before = c.split_at_first-5.ensures.before; after = c.split_at_first-5.ensures.after }))
    (each_some c.in_ok-pair.ensures (each_none c.in_err-pair-2.ensures))))

pub returns-in_err-pair-3 : goal.returns-in_err-pair-3
returns-in_err-pair-3 c =
    c.from_residual-in_err-pair-3.ensures
    ∙ sym (ap (option_map of_bytes) (parts_have (in_six c.args.word.now
    (record { before = c.split_at_first.ensures.before; after = c.split_at_first.ensures.after }) (record { before = c.split_at_first-2.ensures.before; after = c.split_at_first-2.ensures.after })
    (record { before = c.split_at_first-3.ensures.before; after = c.split_at_first-3.ensures.after }) (record { before = c.split_at_first-4.ensures.before; after = c.split_at_first-4.ensures.after })
    (record { before = c.split_at_first-5.ensures.before; after = c.split_at_first-5.ensures.after }))
    (each_some c.in_ok-pair.ensures (each_some c.in_ok-pair-2.ensures
    (each_none c.in_err-pair-3.ensures)))))

pub returns-in_err-pair-4 : goal.returns-in_err-pair-4
returns-in_err-pair-4 c =
    c.from_residual-in_err-pair-4.ensures
    ∙ sym (ap (option_map of_bytes) (parts_have (in_six c.args.word.now
    (record { before = c.split_at_first.ensures.before; after = c.split_at_first.ensures.after }) (record { before = c.split_at_first-2.ensures.before; after = c.split_at_first-2.ensures.after })
    (record { before = c.split_at_first-3.ensures.before; after = c.split_at_first-3.ensures.after }) (record { before = c.split_at_first-4.ensures.before; after = c.split_at_first-4.ensures.after })
    (record { before = c.split_at_first-5.ensures.before; after = c.split_at_first-5.ensures.after }))
    (each_some c.in_ok-pair.ensures (each_some c.in_ok-pair-2.ensures
    (each_some c.in_ok-pair-3.ensures (each_none c.in_err-pair-4.ensures))))))

pub returns-in_err-pair-5 : goal.returns-in_err-pair-5
returns-in_err-pair-5 c =
    c.from_residual-in_err-pair-5.ensures
    ∙ sym (ap (option_map of_bytes) (parts_have (in_six c.args.word.now
    (record { before = c.split_at_first.ensures.before; after = c.split_at_first.ensures.after }) (record { before = c.split_at_first-2.ensures.before; after = c.split_at_first-2.ensures.after })
    (record { before = c.split_at_first-3.ensures.before; after = c.split_at_first-3.ensures.after }) (record { before = c.split_at_first-4.ensures.before; after = c.split_at_first-4.ensures.after })
    (record { before = c.split_at_first-5.ensures.before; after = c.split_at_first-5.ensures.after }))
    (each_some c.in_ok-pair.ensures (each_some c.in_ok-pair-2.ensures
    (each_some c.in_ok-pair-3.ensures (each_some c.in_ok-pair-4.ensures
    (each_none c.in_err-pair-5.ensures)))))))

pub returns-in_err-pair-6 : goal.returns-in_err-pair-6
returns-in_err-pair-6 c =
    c.from_residual-in_err-pair-6.ensures
    ∙ sym (ap (option_map of_bytes) (parts_have (in_six c.args.word.now
    (record { before = c.split_at_first.ensures.before; after = c.split_at_first.ensures.after }) (record { before = c.split_at_first-2.ensures.before; after = c.split_at_first-2.ensures.after })
    (record { before = c.split_at_first-3.ensures.before; after = c.split_at_first-3.ensures.after }) (record { before = c.split_at_first-4.ensures.before; after = c.split_at_first-4.ensures.after })
    (record { before = c.split_at_first-5.ensures.before; after = c.split_at_first-5.ensures.after }))
    (each_some c.in_ok-pair.ensures (each_some c.in_ok-pair-2.ensures
    (each_some c.in_ok-pair-3.ensures (each_some c.in_ok-pair-4.ensures
    (each_some c.in_ok-pair-5.ensures (each_none c.in_err-pair-6.ensures))))))))

pub returns : goal.returns
returns c =
    sym (ap (option_map of_bytes) (parts_have (in_six c.args.word.now
    (record { before = c.split_at_first.ensures.before; after = c.split_at_first.ensures.after }) (record { before = c.split_at_first-2.ensures.before; after = c.split_at_first-2.ensures.after })
    (record { before = c.split_at_first-3.ensures.before; after = c.split_at_first-3.ensures.after }) (record { before = c.split_at_first-4.ensures.before; after = c.split_at_first-4.ensures.after })
    (record { before = c.split_at_first-5.ensures.before; after = c.split_at_first-5.ensures.after }))
    (each_some c.in_ok-pair.ensures (each_some c.in_ok-pair-2.ensures
    (each_some c.in_ok-pair-3.ensures (each_some c.in_ok-pair-4.ensures
    (each_some c.in_ok-pair-5.ensures (each_some c.in_ok-pair-6.ensures each_end))))))))
