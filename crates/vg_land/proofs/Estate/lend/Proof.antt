-- For `Estate::lend`: it starts the lifetime, and lends each byte for it. Assumes `Logic`.
use Rattle.std.proofs.Common.{◌≡◌, List, [], ◌∷◌, ◌++◌, refl}
use seplogic.Ra.Ura.{Ura}
use mir.Syntax.{Fn, Args, Dict, a_type, dcons, dnil}
use mir.Val.{Val}
use mir.MapTy.{inst_fn}
use base.Logic.{SProp, ent}
use prog.Memory.{Memory}
use prog.Routine.{Routine}
use prog.Wp.{Calls, Loops, WpFn, Tables}
use contract.Monad.{Fun, fact}
use contract.Running.{tables, tables_of}
use sound.WpLaws.{WpFn-mono}
use types.Logic.{Logic}
use types.Kit.{‵, raw, ◌⊛◌, prop, ◌$◌, ◌∵◌, !, qed, move, drop, split, fsplit, fjoin, regoal, rewrite, suffices, done}
use types.Part.{agg}
use types.Run.{enter, returns, of_opd, and_then, no_more}
use types.ByLocal.{alloc_all, pass_all, free_all, look_at, get, sets}
use denote.Exit.{yes, no}
use denote.RattleType.{RattleType, owns}
use denote.Param.{param, bounded, layout}
use denote.Param.Laws.{Laws, param_laws}
use denote.Signature.{plain, types_at}
use denote.Steps.{nothing, heard}
use denote.Triple.Clauses.{Clauses, Ended, closing}
use denote.Triple.Entry.{alive}
use denote.Triple.Spec.{Meets, triple_of}
use denote.Triple.Table.{entered}
use denote.Triple.Walked.{says, Stays, stay_dropped, walk_of, ends_at, walk_Meets}
use Rattle.std.specs.declared.alloc.Allocator.{Ghosts}
use Rattle.std.proofs.alloc.Calls.{Goes-blank}
use Rattle.vg_land.proofs.Walks.{none, one, two, tells, none_made, one_made, two_made, none_had}
use contract.BorrowLft.{◌⊑◌}
use Rattle.vg_land.specs.contracts.Land as Run
use Rattle.vg_land.specs.contracts.Deed as Sole
use Rattle.vg_land.proofs.Deed.TheLaws as sole-laws
use Rattle.vg_land.specs.contracts.Estate as Block
use Rattle.vg_land.specs.contracts.Part as Part
use types.Tokens.{lft_new, bor_new}
use denote.Struct.Struct.{as_fields}
use Rattle.vg_land.specs.Ownership.{estate_owns}
use Rattle.vg_land.specs.contracts.Estate.lend as F
use Rattle.vg_land.specs.contracts.Estate.lend.Key.{name as #self}
use Rattle.vg_land.proofs.Estate.lend.Statement as stated
use Rattle.vg_land.proofs.Estate.lend.Code as code

module _ (A : RattleType) (L : Laws A) (g : Ghosts A.Denot) (d dd : Dict) where
  abbrev args : Args
  args = bounded (a_type ∷ []) (A, tt) (dcons d (dcons dd dnil))

  abbrev P : RattleType
  P = param 0 A

  abbrev LP : Laws P
  LP = param_laws 0 A L

  abbrev function : Fn
  function = inst_fn args code.function

  abbrev ended : Ended
  ended = F.ended A g d dd

  abbrev stayed : Stays ended.signature.params ended.kept
  stayed = (stay_dropped (plain (λ _. Run.the_row)) yes, (stay_dropped (plain (λ _. Sole.the_row P g)) no, tt))

  module _ {M : Type 1} {𝓤 : Ura M} (𝓛 : Logic 𝓤) (at_mem : Memory → SProp 𝓤) (run : Routine → Fun 𝓤) where
    open 𝓛 use {H}

    abbrev held : Clauses 𝓤 ended
    held = F.clauses A g d dd 𝓛 at_mem run

    module _ (C : Calls 𝓤 H) (Λ : Loops 𝓤 H) (z : (walk_of 𝓛 ended stayed held).Ghost) where
      abbrev Post : Val → SProp 𝓤
      Post = (walk_of 𝓛 ended stayed held).post z

      abbrev toks : SProp 𝓤
      toks = alive 𝓛 ended.signature z.0.0 z.0.1

      walks : ent 𝓤 ((walk_of 𝓛 ended stayed held).pre z) (WpFn 𝓤 H C Λ function ((walk_of 𝓛 ended stayed held).args z) Post)
      walks =
          let a = z.0.3 in
          let vss = z.0.4 in
          let p = a.0.ptr in
          let e = a.1.0 in
          let S = Sole.the_row P g in
          let B = Block.the_row P g in
          let Asked = (p ≡ e.ptr) × (a.0.len ≡ e.len) in
          qed 𝓛 ((raw toks ⊛ ‵ (owns (types_at ended.signature.params z.0.0) a vss)) ∷ (raw (fact 𝓤 (z.0.0.0 ⊑ A.lives)) ⊛ raw (fact 𝓤 Asked)) ∷ []) ∵
          move ! (1 ∷ []) $ split ! $ drop ! $ heard ! Asked (λ asked. split ! $ move ! (1 ∷ []) $
          fsplit ! $ fsplit ! $ none_had ! vss.0 (λ is₀. move ! (1 ∷ []) $ fsplit ! $ tells ! S (sole-laws.the_row_laws P g LP) e vss.1.0 (λ u is₁ good. move ! (1 ∷ []) $ drop ! $
          let inner = as_fields (layout S ∷ []) (u ∷ []) (good, tt) in
          regoal ! (λ (us : List Val). prop (WpFn 𝓤 H C Λ function (us ++ (vss.1.0 ++ [])) Post)) is₀ refl $
          regoal ! (λ (us : List Val). prop (WpFn 𝓤 H C Λ function ((none ∷ []) ++ (us ++ [])) Post)) is₁ refl $
          enter ! C Λ function (none ∷ u ∷ []) Post $ alloc_all ! (λ l. pass_all ! refl ((tt, tt), (good, tt)) $
          sets ! (of_opd ! (get ! refl)) refl good $
          sets ! (agg ! (and_then ! (get ! refl) (no_more !))) refl inner $
          sets ! (agg ! (no_more !)) refl (tt, tt) $
          sets ! (agg ! (and_then ! (get ! refl) (and_then ! (get ! refl) (no_more !)))) refl (as_fields (layout B ∷ layout Part.the_row ∷ []) (one u ∷ none ∷ []) (inner, ((tt, tt), tt))) $
          -- [the header; the bytes; the tokens; ..]
          move ! (1 ∷ []) $ lft_new ! tt (λ α. move ! (1 ∷ []) $ bor_new ! tt (α ∷ []) $
          let block : B.Denot = record { deed = e; life = α } in
          let part : (Part.the_row).Denot = record { life = α; ptr = p; len = a.0.len } in
          none_made ! $ fjoin ! $ move ! (2 ∷ 1 ∷ []) $ fjoin ! $ rewrite ! 0 (λ r. ‵ (estate_owns α r a.0.len)) asked.0 refl $ rewrite ! 0 (λ n. ‵ (estate_owns α e.ptr n)) asked.1 refl $
          move ! (2 ∷ []) $ one_made ! S e u $ fjoin ! $ two_made ! B Part.the_row block part (one u) none $
          returns ! (look_at ! 0 refl) $ free_all ! refl $
          suffices ! _ (ends_at 𝓛 ended stayed held z (two (one u) none) (block, part) (tt, (tt, tt)) (tt, (tt, tt))) $ says ! (refl, refl, refl) $
          nothing ! $ nothing ! $ fjoin ! $ nothing ! $ fjoin ! $ move ! (2 ∷ 0 ∷ 1 ∷ []) $ done !)))))

    meets : (𝓣 : Tables 𝓤 H) → Meets 𝓛 ended.signature (WpFn 𝓤 H 𝓣.C 𝓣.Λ function) (closing 𝓛 ended held)
    meets 𝓣 =
        walk_Meets 𝓛 ended stayed (Goes-blank 𝓛 1 (plain (λ _. Run.the_row)) yes (λ κs x f. tt), (Goes-blank 𝓛 1 (plain (λ _. Sole.the_row P g)) no (λ κs x f. tt), tt)) held
        (WpFn 𝓤 H 𝓣.C 𝓣.Λ function) (WpFn-mono 𝓤 H 𝓛.laws 𝓣 function) (walks 𝓣.C 𝓣.Λ)

pub lend_spec : {M : Type 1} → stated.statement M
unfolding tables_of
lend_spec 𝓤 𝓛 𝓜 𝓡 wired A L g d dd met md =
    let 𝓣 : Tables 𝓤 𝓛.H = tables_of 𝓤 𝓛.H 𝓜 (tables 𝓤 𝓛.H 𝓜 𝓡 𝓡.env) in
    entered 𝓤 𝓛.H (triple_of 𝓛 (ended A L g d dd).signature (closing 𝓛 (ended A L g d dd) (held A L g d dd 𝓛 𝓜.mem 𝓡.returns))) 𝓣.C 𝓣.Λ (#self (args A L g d dd)) (function A L g d dd)
    (code.unfolded 𝓤 𝓛.H 𝓜 𝓡 wired (A, tt) d dd) (meets A L g d dd 𝓛 𝓜.mem 𝓡.returns 𝓣)
