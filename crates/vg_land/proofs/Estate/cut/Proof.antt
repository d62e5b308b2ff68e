-- For `Estate::cut`: it parts the borrow. Assumes `Logic`.
use Rattle.std.proofs.Common.{◌-◌, ◌≤◌, sym, ◌≡◌, List, [], ◌∷◌, ◌++◌, refl}
use seplogic.Ra.Ura.{Ura}
use mir.Syntax.{Fn, Args, Dict, a_type, dcons, dnil}
use mir.Val.{Val}
use mir.MapTy.{inst_fn}
use base.Fraction.{full_share}
use base.Logic.{SProp, ent}
use prog.Memory.{Memory}
use prog.Routine.{Routine}
use prog.Wp.{Calls, Loops, WpFn, Tables}
use contract.Monad.{Fun, fact}
use contract.Running.{tables, tables_of}
use sound.WpLaws.{WpFn-mono}
use types.Logic.{Logic}
use types.Kit.{‵, raw, ◌⊛◌, later, prop, ◌$◌, ◌∵◌, !, qed, move, drop, use1, split, fsplit, fjoin, feq_l, regoal, rewrite, suffices, await, done}
use types.Part.{agg}
use types.Run.{enter, returns, of_opd, and_then, no_more}
use types.ByLocal.{alloc_all, pass_all, free_all, look_at, get, sets}
use denote.Exit.{yes, no}
use denote.RattleType.{RattleType, owns}
use denote.Param.{param, bounded, layout}
use denote.Param.Laws.{Laws, param_laws}
use denote.Signature.{plain, types_at}
use denote.Steps.{nothing, heard}
use denote.Triple.Clauses.{Clauses, Ended, closing}
use denote.Triple.Entry.{alive}
use denote.Triple.Spec.{Meets, triple_of}
use denote.Triple.Table.{entered}
use denote.Triple.Walked.{says, Stays, stay_dropped, walk_of, ends_at, walk_Meets}
use Rattle.std.specs.declared.alloc.Allocator.{Ghosts}
use Rattle.std.proofs.alloc.Calls.{Goes-blank}
use Rattle.vg_land.proofs.Walks.{none, one, three, none_made, one_made, three_made, one_had, none_had}
use Rattle.vg_land.proofs.Lands.{apart, whole}
use base.Logic.{emp, id⊢}
use base.Fml.{Lft, Fml, Incl-refl, flft, fbor}
use types.Logic.{lfts}
use types.Kit.{use2, split3, flt_l}
use denote.Builtin.{usize}
use denote.RawPtr.{◌+ₚ◌}
use denote.Shares.{bor-Cut}
use ghost.Rules.{Toks}
use mir.Syntax.{w64}
use mir.Val.{vint}
use contract.BorrowLft.{◌⊑◌}
use Rattle.vg_land.specs.contracts.Deed as Deed
use Rattle.vg_land.proofs.Deed.TheLaws as deed-laws
use Rattle.vg_land.specs.contracts.Estate as Estate
use Rattle.vg_land.specs.contracts.Part as Part
use denote.Struct.Struct.{as_fields}
use Rattle.vg_land.specs.Ownership.{land_owns}
use Rattle.vg_land.specs.contracts.Estate.cut as F
use Rattle.vg_land.specs.contracts.Estate.cut.Key.{name as #self}
use Rattle.vg_land.proofs.Estate.cut.Statement as stated
use Rattle.vg_land.proofs.Estate.cut.Code as code

module _ (A : RattleType) (L : Laws A) (g : Ghosts A.Denot) (d dd : Dict) where
  abbrev args : Args
  args = bounded (a_type ∷ []) (A, tt) (dcons d (dcons dd dnil))

  abbrev P : RattleType
  P = param 0 A

  abbrev LP : Laws P
  LP = param_laws 0 A L

  abbrev function : Fn
  function = inst_fn args code.function

  abbrev ended : Ended
  ended = F.ended A g d dd

  abbrev stayed : Stays ended.signature.params ended.kept
  stayed = (stay_dropped (plain (λ _. Estate.the_row P g)) no, (stay_dropped (plain (λ _. Part.the_row)) yes, (stay_dropped (plain (λ _. usize)) yes, tt)))

  module _ {M : Type 1} {𝓤 : Ura M} (𝓛 : Logic 𝓤) (at_mem : Memory → SProp 𝓤) (run : Routine → Fun 𝓤) where
    open 𝓛 use {H}

    abbrev held : Clauses 𝓤 ended
    held = F.clauses A g d dd 𝓛 at_mem run

    module _ (C : Calls 𝓤 H) (Λ : Loops 𝓤 H) (z : (walk_of 𝓛 ended stayed held).Ghost) where
      abbrev Post : Val → SProp 𝓤
      Post = (walk_of 𝓛 ended stayed held).post z

      abbrev toks : SProp 𝓤
      toks = alive 𝓛 ended.signature z.0.0 z.0.1

      walks : ent 𝓤 ((walk_of 𝓛 ended stayed held).pre z) (WpFn 𝓤 H C Λ function ((walk_of 𝓛 ended stayed held).args z) Post)
      walks =
          let a = z.0.3 in
          let vss = z.0.4 in
          let block = a.0 in
          let s = a.1.0 in
          let n = a.1.1.0 in
          let e = block.deed in
          let S = Deed.the_row P g in
          let B = Estate.the_row P g in
          let κ : Lft = s.life ∷ [] in
          let ts : Toks = (κ, full_share) ∷ [] in
          let Whole : Fml = land_owns s.ptr s.len in
          let Front : Fml = land_owns s.ptr n in
          let Back : Fml = land_owns (s.ptr +ₚ n) (s.len - n) in
          let front : (Part.the_row).Denot = record { life = s.life; ptr = s.ptr; len = n } in
          let back : (Part.the_row).Denot = record { life = s.life; ptr = s.ptr +ₚ n; len = s.len - n } in
          let Asked = (s.life ≡ block.life) × (n ≤ s.len) in
          qed 𝓛 ((raw toks ⊛ ‵ (owns (types_at ended.signature.params z.0.0) a vss)) ∷ (raw (fact 𝓤 (z.0.0.0 ⊑ A.lives)) ⊛ raw (fact 𝓤 Asked)) ∷ []) ∵
          move ! (1 ∷ []) $ split ! $ drop ! $ heard ! Asked (λ asked. split ! $ move ! (1 ∷ []) $
          fsplit ! $ fsplit ! $ one_had ! S (deed-laws.the_row_laws P g LP) e vss.0 (λ u is₀ good. move ! (2 ∷ []) $ fsplit ! $ fsplit ! $ none_had ! vss.1.0 (λ is₁. move ! (1 ∷ []) $ fsplit ! $ fsplit ! $ feq_l ! (λ is₂. flt_l ! (λ fits. drop ! $
          let inner = as_fields (layout S ∷ []) (u ∷ []) (good, tt) in
          regoal ! (λ (us : List Val). prop (WpFn 𝓤 H C Λ function (us ++ (vss.1.0 ++ (vss.1.1.0 ++ []))) Post)) is₀ refl $
          regoal ! (λ (us : List Val). prop (WpFn 𝓤 H C Λ function ((one u ∷ []) ++ (us ++ (vss.1.1.0 ++ []))) Post)) is₁ refl $
          regoal ! (λ (us : List Val). prop (WpFn 𝓤 H C Λ function ((one u ∷ []) ++ ((none ∷ []) ++ (us ++ []))) Post)) is₂ refl $
          enter ! C Λ function (one u ∷ none ∷ vint w64 n ∷ []) Post $ alloc_all ! (λ l. pass_all ! refl (inner, ((tt, tt), ((tt, record { fits = fits }), tt))) $
          sets ! (of_opd ! (get ! refl)) refl inner $
          sets ! (agg ! (no_more !)) refl (tt, tt) $
          sets ! (agg ! (no_more !)) refl (tt, tt) $
          sets ! (agg ! (and_then ! (get ! refl) (and_then ! (get ! refl) (and_then ! (get ! refl) (no_more !))))) refl (as_fields (layout B ∷ layout Part.the_row ∷ layout Part.the_row ∷ []) (one u ∷ none ∷ none ∷ []) (inner, ((tt, tt), ((tt, tt), tt)))) $
          -- [the borrow; the header; what the estate owns; the tokens; ..]
          move ! (2 ∷ []) $ fsplit ! $ rewrite ! 0 (λ i. ‵ (flft (i ∷ []) full_share)) (sym asked.0) refl $ move ! (2 ∷ 0 ∷ []) $
          use2 𝓛 (later (‵ (fbor κ Front) ⊛ (‵ (fbor κ Back) ⊛ raw (lfts 𝓛 ts)))) (bor-Cut 𝓛 κ ts (Incl-refl κ) Whole Front Back (emp 𝓤) (whole 𝓛 s.ptr n s.len asked.1) (apart 𝓛 s.ptr n s.len asked.1)) $ await ! tt $ split3 ! $
          move ! (2 ∷ []) $ use1 𝓛 (‵ (flft κ full_share)) (id⊢ 𝓤 _) $ rewrite ! 0 (λ i. ‵ (flft (i ∷ []) full_share)) asked.0 refl $
          -- [the token; front; back; the loan's other end; the header; ..]
          move ! (0 ∷ 3 ∷ []) $ fjoin ! $ move ! (3 ∷ []) $ one_made ! S e u $ fjoin ! $
          move ! (1 ∷ []) $ none_made ! $ fjoin ! $ move ! (2 ∷ []) $ none_made ! $ fjoin ! $ move ! (2 ∷ 1 ∷ 0 ∷ []) $
          three_made ! B Part.the_row Part.the_row block front back (one u) none none $
          returns ! (look_at ! 0 refl) $ free_all ! refl $
          suffices ! _ (ends_at 𝓛 ended stayed held z (three (one u) none none) (block, front, back) ((tt, tt), (tt, (tt, tt))) (tt, (tt, (tt, tt)))) $ says ! (refl, asked.0, refl, refl, asked.0, refl, refl) $
          nothing ! $ nothing ! $ fjoin ! $ nothing ! $ fjoin ! $ nothing ! $ fjoin ! $ move ! (2 ∷ 0 ∷ 1 ∷ []) $ done !))))))

    meets : (𝓣 : Tables 𝓤 H) → Meets 𝓛 ended.signature (WpFn 𝓤 H 𝓣.C 𝓣.Λ function) (closing 𝓛 ended held)
    meets 𝓣 =
        walk_Meets 𝓛 ended stayed (Goes-blank 𝓛 1 (plain (λ _. Estate.the_row P g)) no (λ κs x f. tt), (Goes-blank 𝓛 1 (plain (λ _. Part.the_row)) yes (λ κs x f. tt), (Goes-blank 𝓛 1 (plain (λ _. usize)) yes (λ κs x f. tt), tt))) held
        (WpFn 𝓤 H 𝓣.C 𝓣.Λ function) (WpFn-mono 𝓤 H 𝓛.laws 𝓣 function) (walks 𝓣.C 𝓣.Λ)

pub cut_spec : {M : Type 1} → stated.statement M
unfolding tables_of
cut_spec 𝓤 𝓛 𝓜 𝓡 wired A L g d dd met md =
    let 𝓣 : Tables 𝓤 𝓛.H = tables_of 𝓤 𝓛.H 𝓜 (tables 𝓤 𝓛.H 𝓜 𝓡 𝓡.env) in
    entered 𝓤 𝓛.H (triple_of 𝓛 (ended A L g d dd).signature (closing 𝓛 (ended A L g d dd) (held A L g d dd 𝓛 𝓜.mem 𝓡.returns))) 𝓣.C 𝓣.Λ (#self (args A L g d dd)) (function A L g d dd)
    (code.unfolded 𝓤 𝓛.H 𝓜 𝓡 wired (A, tt) d dd) (meets A L g d dd 𝓛 𝓜.mem 𝓡.returns 𝓣)
