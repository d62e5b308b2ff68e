-- For `Estate::end`: it ends the lifetime, and takes the bytes back. Assumes `Logic`.
use Rattle.std.proofs.Common.{List, [], ◌∷◌, ◌++◌, refl}
use seplogic.Ra.Ura.{Ura}
use mir.Syntax.{Fn, Args, Dict, a_type, dcons, dnil}
use mir.Val.{Val}
use mir.MapTy.{inst_fn}
use base.Logic.{SProp, ent, emp}
use prog.Memory.{Memory}
use prog.Routine.{Routine}
use prog.Wp.{Calls, Loops, WpFn, Tables}
use contract.Monad.{Fun, fact}
use contract.Running.{tables, tables_of}
use sound.WpLaws.{WpFn-mono}
use types.Logic.{Logic}
use types.Kit.{‵, raw, ◌⊛◌, prop, ◌$◌, ◌∵◌, !, qed, move, drop, split, fsplit, fjoin, regoal, suffices, done}
use types.Part.{agg, sub, whole}
use types.Run.{enter, returns, of_opd, and_then, no_more, fld, stop}
use types.ByLocal.{alloc_all, pass_all, free_all, look_at, get, get_in, sets}
use denote.Exit.{no}
use denote.RattleType.{RattleType, owns}
use denote.Param.{param, bounded, layout}
use denote.Param.Laws.{Laws, param_laws}
use denote.Signature.{plain, types_at}
use denote.Steps.{nothing}
use denote.Triple.Clauses.{Clauses, Ended, closing}
use denote.Triple.Entry.{alive}
use denote.Triple.Spec.{Meets, triple_of}
use denote.Triple.Table.{entered}
use denote.Triple.Walked.{says, Stays, stay_dropped, walk_of, ends_at, walk_Meets}
use Rattle.std.specs.declared.alloc.Allocator.{Ghosts}
use Rattle.std.proofs.alloc.Calls.{Goes-blank}
use Rattle.vg_land.proofs.Walks.{none, one, two, none_made, two_made, one_had}
use contract.BorrowLft.{◌⊑◌}
use Rattle.vg_land.specs.contracts.Land as Land
use Rattle.vg_land.specs.contracts.Deed as Deed
use Rattle.vg_land.proofs.Deed.TheLaws as deed-laws
use Rattle.vg_land.specs.contracts.Estate as Estate
use types.Tokens.{lft_end, lent_back}
use denote.Struct.Struct.{as_fields}
use Rattle.vg_land.specs.contracts.Estate.end as F
use Rattle.vg_land.specs.contracts.Estate.end.Key.{name as #self}
use Rattle.vg_land.proofs.Estate.end.Statement as stated
use Rattle.vg_land.proofs.Estate.end.Code as code

module _ (A : RattleType) (L : Laws A) (g : Ghosts A.Denot) (d dd : Dict) where
  abbrev args : Args
  args = bounded (a_type ∷ []) (A, tt) (dcons d (dcons dd dnil))

  abbrev P : RattleType
  P = param 0 A

  abbrev LP : Laws P
  LP = param_laws 0 A L

  abbrev function : Fn
  function = inst_fn args code.function

  abbrev ended : Ended
  ended = F.ended A g d dd

  abbrev stayed : Stays ended.signature.params ended.kept
  stayed = (stay_dropped (plain (λ _. Estate.the_row P g)) no, tt)

  module _ {M : Type 1} {𝓤 : Ura M} (𝓛 : Logic 𝓤) (at_mem : Memory → SProp 𝓤) (run : Routine → Fun 𝓤) where
    open 𝓛 use {H}

    abbrev held : Clauses 𝓤 ended
    held = F.clauses A g d dd 𝓛 at_mem run

    module _ (C : Calls 𝓤 H) (Λ : Loops 𝓤 H) (z : (walk_of 𝓛 ended stayed held).Ghost) where
      abbrev Post : Val → SProp 𝓤
      Post = (walk_of 𝓛 ended stayed held).post z

      abbrev toks : SProp 𝓤
      toks = alive 𝓛 ended.signature z.0.0 z.0.1

      walks : ent 𝓤 ((walk_of 𝓛 ended stayed held).pre z) (WpFn 𝓤 H C Λ function ((walk_of 𝓛 ended stayed held).args z) Post)
      walks =
          let a = z.0.3 in
          let vss = z.0.4 in
          let block = a.0 in
          let e = block.deed in
          let S = Deed.the_row P g in
          qed 𝓛 ((raw toks ⊛ ‵ (owns (types_at ended.signature.params z.0.0) a vss)) ∷ (raw (fact 𝓤 (z.0.0.0 ⊑ A.lives)) ⊛ raw (emp 𝓤)) ∷ []) ∵
          move ! (1 ∷ []) $ drop ! $ split ! $ move ! (1 ∷ []) $
          fsplit ! $ fsplit ! $ one_had ! S (deed-laws.the_row_laws P g LP) e vss.0 (λ u is₀ good. move ! (2 ∷ []) $ drop ! $
          regoal ! (λ (us : List Val). prop (WpFn 𝓤 H C Λ function (us ++ []) Post)) is₀ refl $
          enter ! C Λ function (one u ∷ []) Post $ alloc_all ! (λ l. pass_all ! refl (as_fields (layout S ∷ []) (u ∷ []) (good, tt), tt) $
          sets ! (of_opd ! (get_in ! (fld ! refl (stop !)) (sub ! 0 refl (whole !)))) refl good $
          sets ! (agg ! (no_more !)) refl (tt, tt) $
          sets ! (of_opd ! (get ! refl)) refl good $
          sets ! (agg ! (and_then ! (get ! refl) (and_then ! (get ! refl) (no_more !)))) refl (as_fields (layout Land.the_row ∷ layout S ∷ []) (none ∷ u ∷ []) ((tt, tt), (good, tt))) $
          -- [the header; what the estate owns; the tokens; ..]
          move ! (1 ∷ []) $ fsplit ! $ lft_end ! tt $ lent_back ! tt $
          let r : (Land.the_row).Denot = record { ptr = e.ptr; len = e.len } in
          none_made ! $ fjoin ! $ two_made ! Land.the_row S r e none u $
          returns ! (look_at ! 0 refl) $ free_all ! refl $
          suffices ! _ (ends_at 𝓛 ended stayed held z (two none u) (r, e) ((tt, tt), tt) (tt, tt)) $ says ! (refl, refl) $
          nothing ! $ nothing ! $ fjoin ! $ move ! (2 ∷ 0 ∷ 1 ∷ []) $ done !))

    meets : (𝓣 : Tables 𝓤 H) → Meets 𝓛 ended.signature (WpFn 𝓤 H 𝓣.C 𝓣.Λ function) (closing 𝓛 ended held)
    meets 𝓣 =
        walk_Meets 𝓛 ended stayed (Goes-blank 𝓛 1 (plain (λ _. Estate.the_row P g)) no (λ κs x f. tt), tt) held
        (WpFn 𝓤 H 𝓣.C 𝓣.Λ function) (WpFn-mono 𝓤 H 𝓛.laws 𝓣 function) (walks 𝓣.C 𝓣.Λ)

pub end_spec : {M : Type 1} → stated.statement M
unfolding tables_of
end_spec 𝓤 𝓛 𝓜 𝓡 wired A L g d dd met md =
    let 𝓣 : Tables 𝓤 𝓛.H = tables_of 𝓤 𝓛.H 𝓜 (tables 𝓤 𝓛.H 𝓜 𝓡 𝓡.env) in
    entered 𝓤 𝓛.H (triple_of 𝓛 (ended A L g d dd).signature (closing 𝓛 (ended A L g d dd) (held A L g d dd 𝓛 𝓜.mem 𝓡.returns))) 𝓣.C 𝓣.Λ (#self (args A L g d dd)) (function A L g d dd)
    (code.unfolded 𝓤 𝓛.H 𝓜 𝓡 wired (A, tt) d dd) (meets A L g d dd 𝓛 𝓜.mem 𝓡.returns 𝓣)
