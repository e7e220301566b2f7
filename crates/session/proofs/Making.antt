-- A record asks for one call alone, since no two kinds have one number: so it does what its kind asks for
-- once that call keeps its promise.
use mathlib.Core.Path.{◌≡◌, refl, sym, ap, subst, ◌∙◌}
use mathlib.Core.List.{List}
use Prim.Native.Nat.{ℕ}
use lib.Dec.{eqb}
use mathlib.Core.Bool.{cond}
use Rattle.std.specs.Prelude.{Result}
use Rattle.board.specs.declared.Board.{Board}
use Rattle.board.specs.declared.Refusal.{Refusal}
use Rattle.requests.specs.declared.RequestAct.{RequestAct}
use Rattle.requests.specs.declared.RequestAdmit.{RequestAdmit}
use Rattle.requests.specs.declared.RequestDo.{RequestDo}
use Rattle.outcomes.specs.declared.Accepted.{Accepted}
use Rattle.outcomes.specs.Outcomes.{answer_of, board_left}
use Rattle.admit.specs.Admits.{Admits}
use Rattle.act.specs.ActsNow.{ActsNow}
use Rattle.do_duty.specs.Does.{Does}
use Rattle.session.specs.declared.kind.Kind.{Kind}
use Rattle.session.specs.declared.kind.Kind.TheVariants.{Admit, Act, Do, Withdraw, Check, Save, Walk, Poke}
use Rattle.session.specs.declared.Record.{Record}
use Rattle.session.specs.Kinds.{number_of}
use Rattle.session.specs.Sessions.{request_admit, request_act, request_do, MakesAs, Makes}

-- the kind of a number, where one has it
abbrev pub kind_of : ℕ → Kind
kind_of n =
    cond (eqb n 0) Admit
    (cond (eqb n 1) Act
    (cond (eqb n 2) Do
    (cond (eqb n 3) Withdraw
    (cond (eqb n 4) Check
    (cond (eqb n 5) Save
    (cond (eqb n 6) Walk Poke))))))

pub numbered : (kind : Kind) → kind_of (number_of kind) ≡ kind
numbered Admit = refl
numbered Act = refl
numbered Do = refl
numbered Withdraw = refl
numbered Check = refl
numbered Save = refl
numbered Walk = refl
numbered Poke = refl

-- two kinds of one number are one
pub same_kind : (kind other : Kind) → number_of kind ≡ number_of other → kind ≡ other
same_kind kind other e = sym (numbered kind) ∙ ap kind_of e ∙ numbered other

module _ (b : Board) (r : Record) (before after : List ℕ) (result : Result Accepted Refusal) where
  -- the record is of this kind
  pub made :
      (kind : Kind) → number_of kind ≡ r.kind → MakesAs kind b r before result after
      → Makes b r before result after
  made kind is kept =
      record {
        known = λ other e.
            subst (λ (k : Kind). MakesAs k b r before result after) (same_kind kind other (is ∙ e)) kept;
        unknown = λ none. absurd (none kind (sym is));
      }

  module _ (kind : Kind) (is : number_of kind ≡ r.kind) where
    pub made_admit :
        (q : RequestAdmit) → kind ≡ Admit → q ≡ request_admit r
        → Admits b before q (answer_of result) (board_left b result) after → Makes b r before result after
    made_admit q e asks kept =
        let P : RequestAdmit → Type 0 = λ q. Admits b before q (answer_of result) (board_left b result) after in
        made Admit (ap number_of (sym e) ∙ is) (subst P asks kept)

    pub made_act :
        (q : RequestAct) → kind ≡ Act → q ≡ request_act r
        → ActsNow b before q (answer_of result) (board_left b result) after → Makes b r before result after
    made_act q e asks kept =
        let P : RequestAct → Type 0 = λ q. ActsNow b before q (answer_of result) (board_left b result) after in
        made Act (ap number_of (sym e) ∙ is) (subst P asks kept)

    pub made_do :
        (q : RequestDo) → kind ≡ Do → q ≡ request_do r → Does b q (answer_of result) (board_left b result)
        → after ≡ before → Makes b r before result after
    made_do q e asks kept same =
        let P : RequestDo → Type 0 = λ q. Does b q (answer_of result) (board_left b result) in
        made Do (ap number_of (sym e) ∙ is) (subst P asks kept, same)
