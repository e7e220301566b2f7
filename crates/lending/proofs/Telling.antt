-- What an accepted lent call answers: nothing, or the serial that the call by value gave. Where it is the
-- serial, the code has one local more, in which it stands before the answer is made.
--     more, tail       that local, and the code that makes the answer
--     spare            what there is of the local while it is empty
--     alloc-more, answers, leaves-more     the steps at which the two differ
use mathlib.Core.Path.{◌≡◌, refl, sym, subst}
use mathlib.Core.List.{List, [], ◌∷◌, ◌++◌}
use mathlib.Core.Option.{Option}
use Prim.Native.Nat.{ℕ, zero, suc}
use seplogic.Ra.Ura.{Ura}
use base.Fraction.{full_share}
use base.Fml.{Share, ftrue, fat, froom, fdies}
use base.Logic.{SProp, ent, sep, emp, id⊢, via, mono_r, snd∗}
use denote.Param.Laws.{of_field, field_told}
use denote.Param.Shared.{copy_shared}
use denote.Struct.Field.{unit-field}
use denote.Struct.Laws as LL
use mir.Syntax.{Body as MBody, Local, Ty, local, value_local, place, field, copy, int, opd_unit, rv_opd, w8}
use mir.Syntax.{aggregate, assign, seq}
use mir.Val.{Val}
use prog.Wp.{Env, Calls, Loops, next, release}
use types.Kit.{Goal, Post, Item, Seq, Step, ‵, ◌⊛◌, ⋆, mean, ◌$◌, step, prop, post, runs, allocs, frees, aim}
use types.Kit.{nth, put, pop, split, join}
use types.Logic.{Logic}
use types.Part.{agg}
use types.Run.{alloc1, alloc0, init, forget, stop, from, lit, unit_lit, of_opd, and_then, no_more}
use types.Run.{assigns_last}
use denote.Steps.{nothing}
use Rattle.std.specs.Prelude.{Ok}
use Rattle.board.specs.Answers.{done_answer}
use Rattle.board.specs.Refusals.{plainly_done}
use Rattle.board.specs.contracts.Serial as S
use Rattle.board.proofs.Serial.TheLaws as S'
use Rattle.board.specs.declared.Answer.{Answer}
use Rattle.outcomes.specs.contracts.Accepted as A
use Rattle.outcomes.proofs.Accepted.TheLaws as A'
use Rattle.outcomes.specs.declared.Accepted.{Accepted}
use Rattle.lending.proofs.Steps.{Data, IsIn, accepted, made_ty, made_val, made_typed, of_ok, stacked, past}
use Rattle.lending.proofs.Steps.{released, at_local, at_field, sets}

pub data Telling : Type 0 where
  no_serial : Telling
  its_serial : Telling

-- what is answered, and the answer that it stands for
abbrev pub told : Telling → Data
told no_serial = record {
  row = unit-field.row;
  laws = of_field unit-field LL.unit-laws refl (copy_shared unit-field LL.unit-copy);
  told = field_told unit-field LL.unit-laws;
  plain = LL.unit-plain;
}
told its_serial = record {
  row = S.the_row;
  laws = S'.the_row_laws;
  told = S'.the_told;
  plain = S'.the_row_plain;
}

abbrev pub done : (t : Telling) → (told t).row.Denot → Answer
done no_serial = plainly_done
done its_serial = λ s. done_answer s.0

abbrev pub told_of : (t : Telling) → Accepted → (told t).row.Denot
told_of no_serial a = tt
told_of its_serial a = a.serial

pub is_told : (t : Telling) (a : Accepted) → IsIn accepted a → IsIn (told t) (told_of t a)
is_told no_serial a is = refl
is_told its_serial a is = (LL.owed A.the_type A'.the_laws a _ is).1.0

-- ---- the code: _4 is what the call by value gave, _10 the answer, _12 the local more

abbrev pub more : Telling → List Local
more no_serial = []
more its_serial = local S'.mir value_local ∷ []

abbrev pub tail : Telling → MBody
tail no_serial = assign (place 10 []) (aggregate (int w8 0 ∷ opd_unit ∷ []))
tail its_serial =
    seq (assign (place 12 []) (rv_opd (copy (place 4 (field 1 ∷ [])))))
    (assign (place 10 []) (aggregate (int w8 0 ∷ copy (place 12 []) ∷ [])))

-- where it lies
abbrev pub extra : Telling → ℕ → List (Ty × ℕ)
extra no_serial l = []
extra its_serial l = (S'.mir, l) ∷ []

module _ {M : Type 1} {𝓤 : Ura M} where
  abbrev pub spare : Telling → ℕ → Item 𝓤
  spare no_serial l = ‵ ftrue
  spare its_serial l = ‵ (froom S'.mir l zero) ⊛ ‵ (fdies S'.mir l)

-- ---- the steps

module _ {M : Type 1} {𝓤 : Ura M} {𝓛 : Logic 𝓤} {K : Type 0} {Γ : List (Item 𝓤)} where
  open 𝓛 use {H}

  pub alloc_more : K → (t : Telling) {Kt : Env 𝓤 H → Goal 𝓤 H}
      → ((l : ℕ) → Seq K 𝓛 (spare t l ∷ Γ) (Kt (extra t l))) → Seq K 𝓛 Γ (allocs (more t) Kt)
  alloc_more k no_serial f = alloc0 k $ nothing k $ f zero
  alloc_more k its_serial f = alloc1 k (λ l. alloc0 k $ join k $ f l)

  -- the answer of the accepted call a is made: entry n is room for it, entry m the cell of a
  pub answers : K → (t : Telling) {C : Calls 𝓤 H} {Λ : Loops 𝓤 H} {q : Post 𝓤 H}
      {e₀ e₁ e₂ e₃ e₅ e₆ e₇ e₈ e₉ e₁₁ : Ty × ℕ} {l₄ l₁₀ : ℕ} (l₁₂ n m : ℕ) {s : Share} (a : Accepted)
      → IsIn accepted a → nth 𝓛 n Γ ≡ ‵ (froom (made_ty (told t)) l₁₀ zero)
      → nth 𝓛 m Γ ≡ ‵ (fat s A'.mir l₄ zero (A'.the_told.val a))
      → Step K 𝓛
      (spare t l₁₂
      ∷ put 𝓛 n (‵ (fat full_share (made_ty (told t)) l₁₀ zero (made_val (told t) (Ok (told_of t a))))) Γ)
      (prop (post 𝓤 H q next)) (spare t l₁₂ ∷ Γ)
      (runs C Λ (e₀ ∷ e₁ ∷ e₂ ∷ e₃ ∷ (A'.mir, l₄) ∷ e₅ ∷ e₆ ∷ e₇ ∷ e₈ ∷ e₉ ∷ (made_ty (told t), l₁₀) ∷ e₁₁
      ∷ extra t l₁₂) (tail t) q)
  answers k no_serial l n m a is room at =
      let ok : IsIn (told no_serial) tt = is_told no_serial a is in
      step (λ r. assigns_last k (agg k (and_then k (lit k tt) (and_then k (unit_lit k) (no_more k))))
      (from k (stop k)) (init k (suc n) room (made_typed (told no_serial) 𝓛 (Ok tt)
      (of_ok (told no_serial) tt ok))) $ r)
  answers k its_serial l n m a is room at =
      let ok : IsIn (told its_serial) a.serial = is_told its_serial a is in
      step (λ r. split k $
      sets k (of_opd k (at_field k (suc (suc m)) 1 at refl refl)) 0 refl
      ((LL.lawful S.the_type S'.the_laws 𝓛).typed a.serial _ ok).0 $
      assigns_last k (agg k (and_then k (lit k tt) (and_then k (at_local k 0 refl) (no_more k))))
      (from k (stop k)) (init k (suc (suc n)) room
      (made_typed (told its_serial) 𝓛 (Ok a.serial) (of_ok (told its_serial) a.serial ok))) $
      forget k 0 refl $ join k $ r)

module _ {M : Type 1} {𝓤 : Ura M} (𝓛 : Logic 𝓤) where
  open 𝓛 use {H}

  given_back : (t : Telling) (l : ℕ) (E : Env 𝓤 H) (P : SProp 𝓤)
      → ent 𝓤 (sep 𝓤 (mean 𝓛 (spare t l)) (release 𝓤 H E P)) (release 𝓤 H (E ++ extra t l) P)
  given_back no_serial l [] P = snd∗ 𝓤 (emp 𝓤) P
  given_back its_serial l [] P = id⊢ 𝓤 (release 𝓤 H (extra its_serial l) P)
  given_back t l (e ∷ E) P =
      let X : SProp 𝓤 = sep 𝓤 (H.room e.0 e.1 zero) (H.dies e.0 e.1) in
      via 𝓤 (sep 𝓤 X (sep 𝓤 (mean 𝓛 (spare t l)) (release 𝓤 H E P)))
      (past 𝓛 (mean 𝓛 (spare t l)) X (release 𝓤 H E P)) (mono_r 𝓤 X (given_back t l E P))

  -- all locals are freed: those of E lie on top, below what is spare
  pub leaves_more : {K : Type 0} {Γ Γ' : List (Item 𝓤)} {G : Goal 𝓤 H} (t : Telling) (l : ℕ) (E : Env 𝓤 H)
      (vs : List (Option Val)) → Γ ≡ spare t l ∷ stacked 𝓛 E vs Γ'
      → Step K 𝓛 Γ' G Γ (frees (E ++ extra t l) G)
  leaves_more {Γ' = Γ'} {G} t l E vs e = step (λ s. record {
    prf = subst (λ (Δ : List (Item 𝓤)). ent 𝓤 (⋆ 𝓛 Δ) (release 𝓤 H (E ++ extra t l) (aim 𝓤 H G))) (sym e)
        (via 𝓤 (sep 𝓤 (mean 𝓛 (spare t l)) (⋆ 𝓛 (stacked 𝓛 E vs Γ'))) (pop 𝓛 (spare t l) (stacked 𝓛 E vs Γ'))
        (via 𝓤 (sep 𝓤 (mean 𝓛 (spare t l)) (release 𝓤 H E (aim 𝓤 H G)))
        (mono_r 𝓤 (mean 𝓛 (spare t l)) (released 𝓛 𝓛.laws E vs Γ' (aim 𝓤 H G) s.prf))
        (given_back t l E (aim 𝓤 H G))));
  })
