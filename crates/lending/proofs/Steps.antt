-- What the walks of the lent calls share: the machine values of a board and of a `Result` with a refusal, and
-- steps of the kit's calculus (`types.Kit`):
--     at_local, at_field   a local is read, or a field of one
--     sets             a local is assigned
--     has              what a plain struct owns is had for nothing
--     opens-board      a lent board's borrow is opened: the board lies in its cell
--     closes-board     the borrow is closed at the board that lies there now
--     sinks            the first n entries go to the end
--     leaves           all locals are freed, at a return
use mathlib.Core.Path.{◌≡◌, sym, subst}
use mathlib.Core.List.{List, [], ◌∷◌, ◌++◌, map}
use mathlib.Core.Option.{Option, none, some}
use Prim.Native.Nat.{ℕ, zero, suc, ◌+◌}
use lib.Dec.{T as Holds}
use seplogic.Ra.Ura.{Ura}
use base.Fraction.{full_share}
use base.Fml.{Lft, Share, fat, froom, fdies, flft, fobs, fauth, fbor, fobor}
use base.Logic.{SProp, ent, sep, emp, id⊢, via, comm∗, assoc∗, assoc', mono_l, mono_r, emp∗}
use denote.Enum.Declared as E
use denote.Enum.Enum as Enum
use denote.Enum.Laws as EL
use denote.Laws.{Is, shows}
use denote.Memory.{mem, cell_at, pointee}
use denote.Param.Laws.{Laws as RowLaws, Told}
use denote.Param.Plain.{IsPlain}
use denote.RattleType.{RattleType}
use denote.Ref.{MutBor}
use denote.Steps.{opens, closes, owned, peeks}
use denote.Struct.Declared.{Declared, fields, row}
use denote.Struct.Laws as LL
use denote.Struct.Steps.{spelt}
use denote.Struct.Struct.{Plains}
use types.Logic.{Logic}
use mir.Fields.{get_v, set_v}
use mir.Syntax.{Ty, Tys, Sym, Lifetime, Body as MBody, Rv as Rvalue, named, mut, w32, w64, ty_int, ty_ref}
use mir.Syntax.{ty_struct, tcons, tnil, copy, place, field, assign, seq}
use mir.Val.{Val, Vals, WT, has_ty, vstruct}
use prog.Memory.{field_at}
use prog.Wp.{Env, Spot, Calls, Loops, release, spot_of}
use sound.Laws.{Laws}
use types.Kit.{Goal, Post, Item, Seq, Step, Soaks, ‵, ⋆, ◌$◌, step, aim, runs, frees, nth, put, push}
use types.Kit.{pop, ++⊢, move, drop}
use types.Part.{Part, whole, sub, look_in}
use types.Run.{Walks, Opd, Rv, load, from, stop, fld, look, init, assigns}
use types.SemTy.{Body}
use Rattle.std.specs.Prelude.{Result, Ok, Err}
use Rattle.std.specs.contracts.result.Result as R
use Rattle.std.proofs.result.Result.TheLaws as R'
use Rattle.board.specs.declared.Board.{Board}
use Rattle.board.specs.declared.Refusal.{Refusal}
use Rattle.board.specs.contracts.Board as B
use Rattle.board.proofs.Board.TheLaws as B'
use Rattle.board.specs.contracts.Refusal as F
use Rattle.board.proofs.Refusal.TheLaws as F'
use Rattle.outcomes.specs.declared.Accepted.{Accepted}
use Rattle.outcomes.specs.contracts.Accepted as A
use Rattle.outcomes.proofs.Accepted.TheLaws as A'

-- ---- machine values, and what is known of them

abbrev pub board_val : Board → Val
board_val = LL.val B.the_type B'.the_laws

abbrev pub IsBoard : Board → Type 0
IsBoard d = Is B.the_row d (board_val d ∷ [])

-- a machine value has its type
pub board_typed :
    {M : Type 1} {𝓤 : Ura M} → (𝓛 : Logic 𝓤) → (d : Board) → IsBoard d
    → Holds (has_ty B'.mir (board_val d)) × WT (board_val d)
board_typed 𝓛 d is = ((LL.lawful B.the_type B'.the_laws 𝓛).typed d _ is).0

-- a type of plain data, with its laws
pub record Data : Type 2 where
  pub row : RattleType
  pub laws : RowLaws row
  pub told : Told row
  pub plain : IsPlain row

-- a `Result` of such data with a refusal
module _ (D : Data) where
  abbrev pub Made : Type 0
  Made = Result D.row.Denot Refusal

  abbrev pub made_type : E.Declared
  made_type = R.the_type D.row F.the_row

  abbrev pub made_row : RattleType
  made_row = E.row made_type

  abbrev pub made_laws : EL.Laws made_type
  made_laws = R'.the_laws D.row F.the_row D.laws F'.the_row_laws D.told F'.the_told

  abbrev pub made_ty : Ty
  made_ty = Enum.layout (E.shape made_type)

  abbrev pub made_val : Made → Val
  made_val = EL.val made_type made_laws

  abbrev pub IsMade : Made → Val → Type 0
  IsMade r w = Is made_row r (w ∷ [])

  -- what a `Result` is made of, and what whoever holds one knows of it
  abbrev pub IsIn : D.row.Denot → Type 0
  IsIn x = Is D.row x (D.told.val x ∷ [])

  abbrev pub IsRefusal : Refusal → Type 0
  IsRefusal e = Is F.the_row e (F'.the_told.val e ∷ [])

  pub of_ok : (x : D.row.Denot) → IsIn x → IsMade (Ok x) (made_val (Ok x))
  of_ok x is = EL.owes made_type made_laws (Ok x) (is, tt)

  pub of_err : (e : Refusal) → IsRefusal e → IsMade (Err e) (made_val (Err e))
  of_err e is = EL.owes made_type made_laws (Err e) (is, tt)

  pub in_ok : (x : D.row.Denot) (w : Val) → IsMade (Ok x) w → IsIn x
  in_ok x w is = (EL.owed made_type made_laws (Ok x) (w ∷ []) is).0

  pub in_err : (e : Refusal) (w : Val) → IsMade (Err e) w → IsRefusal e
  in_err e w is = (EL.owed made_type made_laws (Err e) (w ∷ []) is).0

  pub made_typed :
      {M : Type 1} {𝓤 : Ura M} → (𝓛 : Logic 𝓤) → (r : Made) {w : Val} → IsMade r w
      → Holds (has_ty made_ty w) × WT w
  made_typed 𝓛 r is = ((EL.lawful made_type made_laws 𝓛 tt).typed r _ is).0

pub refusal_typed :
    {M : Type 1} {𝓤 : Ura M} → (𝓛 : Logic 𝓤) → (e : Refusal) → Is F.the_row e (F'.the_told.val e ∷ [])
    → Holds (has_ty F'.mir (F'.the_told.val e)) × WT (F'.the_told.val e)
refusal_typed 𝓛 e is = ((F'.the_row_laws.lawful 𝓛).typed e _ is).0

-- what an accepted call by value gives
abbrev pub accepted : Data
accepted = record { row = A.the_row; laws = A'.the_row_laws; told = A'.the_told; plain = A'.the_row_plain }

pub accepted_typed :
    {M : Type 1} {𝓤 : Ura M} → (𝓛 : Logic 𝓤) → (a : Accepted) → IsIn accepted a
    → Holds (has_ty A'.mir (A'.the_told.val a)) × WT (A'.the_told.val a)
accepted_typed 𝓛 a is = ((LL.lawful A.the_type A'.the_laws 𝓛).typed a _ is).0

-- whoever holds it knows this of its board
pub is_board : (a : Accepted) → IsIn accepted a → IsBoard a.board
is_board a is = (LL.owed A.the_type A'.the_laws a _ is).0

-- the MIR types of the references: to the board, to the list's entries, and to the list ("&[]")
abbrev pub board_ref : Ty
board_ref = ty_ref (named 0) mut (pointee (B.the_row).written)

abbrev pub entry_ref : Lifetime → Ty
entry_ref ℓ = ty_ref ℓ mut (ty_int w32)

abbrev pub list_ref : Lifetime → Ty
list_ref ℓ = ty_struct (38 ∷ 91 ∷ 93 ∷ []) (tcons (entry_ref ℓ) (tcons (ty_int w64) tnil))

-- ---- a lent board on top of a context

module _ {M : Type 1} (𝓤 : Ura M) (κ : Lft) (q : Share) (x : MutBor Board) where
  -- its borrow, with the board d behind it, and the token of its lifetime
  abbrev pub borrowed : Board → List (Item 𝓤) → List (Item 𝓤)
  borrowed d Γ =
      ‵ (fobs x.ghost_name ((B.the_row).coded.code d))
      ∷ ‵ (fbor κ (Body (mem B.the_row) x.ref_ptr.0 x.ref_ptr.1 x.ghost_name)) ∷ ‵ (flft κ q) ∷ Γ

  -- the borrow, opened: d lies in the board's cell
  abbrev pub opened : Board → List (Item 𝓤) → List (Item 𝓤)
  opened d Γ =
      ‵ (cell_at full_share (B.the_row).mir (board_val d ∷ []) x.ref_ptr.0 x.ref_ptr.1)
      ∷ ‵ ((B.the_row).own_val x.now (board_val x.now ∷ []))
      ∷ ‵ (fobor κ q (Body (mem B.the_row) x.ref_ptr.0 x.ref_ptr.1 x.ghost_name))
      ∷ ‵ (fobs x.ghost_name ((B.the_row).coded.code x.now))
      ∷ ‵ (fauth x.ghost_name ((B.the_row).coded.code x.now)) ∷ Γ

-- ---- locals on top of a context, the last one first: a cell with its value (room, where there is none), and
-- the right to end it

module _ {M : Type 1} {𝓤 : Ura M} (𝓛 : Logic 𝓤) where
  open 𝓛 use {H}

  abbrev pub stacked : Env 𝓤 H → List (Option Val) → List (Item 𝓤) → List (Item 𝓤)
  stacked [] vs Γ = Γ
  stacked (e ∷ E) [] Γ = stacked E [] (‵ (froom e.0 e.1 zero) ∷ ‵ (fdies e.0 e.1) ∷ Γ)
  stacked (e ∷ E) (none ∷ vs) Γ = stacked E vs (‵ (froom e.0 e.1 zero) ∷ ‵ (fdies e.0 e.1) ∷ Γ)
  stacked (e ∷ E) (some v ∷ vs) Γ =
      stacked E vs (‵ (fat full_share e.0 e.1 zero v) ∷ ‵ (fdies e.0 e.1) ∷ Γ)

  -- what a return gives up for one local
  abbrev given_up : Ty × ℕ → SProp 𝓤
  given_up e = sep 𝓤 (H.room e.0 e.1 zero) (H.dies e.0 e.1)

  pub past : (P Q R : SProp 𝓤) → ent 𝓤 (sep 𝓤 P (sep 𝓤 Q R)) (sep 𝓤 Q (sep 𝓤 P R))
  past P Q R =
      via 𝓤 (sep 𝓤 (sep 𝓤 P Q) R) (assoc' 𝓤 P Q R)
      (via 𝓤 (sep 𝓤 (sep 𝓤 Q P) R) (mono_l 𝓤 R (comm∗ 𝓤 P Q)) (assoc∗ 𝓤 Q P R))

  out_of : (E : Env 𝓤 H) (P Q : SProp 𝓤) → ent 𝓤 (release 𝓤 H E (sep 𝓤 P Q)) (sep 𝓤 P (release 𝓤 H E Q))
  out_of [] P Q = id⊢ 𝓤 (sep 𝓤 P Q)
  out_of (e ∷ E) P Q =
      via 𝓤 (sep 𝓤 (given_up e) (sep 𝓤 P (release 𝓤 H E Q))) (mono_r 𝓤 (given_up e) (out_of E P Q))
      (past (given_up e) P (release 𝓤 H E Q))

  one : (e : Ty × ℕ) (Γ : List (Item 𝓤)) (P : SProp 𝓤) → ent 𝓤 (⋆ 𝓛 Γ) P
      → ent 𝓤 (sep 𝓤 (H.room e.0 e.1 zero) (⋆ 𝓛 (‵ (fdies e.0 e.1) ∷ Γ)))
      (sep 𝓤 (given_up e) P)
  one e Γ P h =
      via 𝓤 (sep 𝓤 (H.room e.0 e.1 zero) (sep 𝓤 (H.dies e.0 e.1) (⋆ 𝓛 Γ)))
      (mono_r 𝓤 (H.room e.0 e.1 zero) (pop 𝓛 (‵ (fdies e.0 e.1)) Γ))
      (via 𝓤 (sep 𝓤 (given_up e) (⋆ 𝓛 Γ))
      (assoc' 𝓤 (H.room e.0 e.1 zero) (H.dies e.0 e.1) (⋆ 𝓛 Γ)) (mono_r 𝓤 (given_up e) h))

  pub released : Laws 𝓤 H → (E : Env 𝓤 H) (vs : List (Option Val)) (Γ : List (Item 𝓤)) (P : SProp 𝓤)
      → ent 𝓤 (⋆ 𝓛 Γ) P → ent 𝓤 (⋆ 𝓛 (stacked E vs Γ)) (release 𝓤 H E P)
  released L [] vs Γ P h = h
  released L (e ∷ E) [] Γ P h =
      via 𝓤 (release 𝓤 H E (sep 𝓤 (given_up e) P))
      (released L E [] (‵ (froom e.0 e.1 zero) ∷ ‵ (fdies e.0 e.1) ∷ Γ) (sep 𝓤 (given_up e) P)
      (one e Γ P h))
      (out_of E (given_up e) P)
  released L (e ∷ E) (none ∷ vs) Γ P h =
      via 𝓤 (release 𝓤 H E (sep 𝓤 (given_up e) P))
      (released L E vs (‵ (froom e.0 e.1 zero) ∷ ‵ (fdies e.0 e.1) ∷ Γ) (sep 𝓤 (given_up e) P)
      (one e Γ P h))
      (out_of E (given_up e) P)
  released L (e ∷ E) (some v ∷ vs) Γ P h =
      via 𝓤 (release 𝓤 H E (sep 𝓤 (given_up e) P))
      (released L E vs (‵ (fat full_share e.0 e.1 zero v) ∷ ‵ (fdies e.0 e.1) ∷ Γ)
      (sep 𝓤 (given_up e) P)
      (via 𝓤 (sep 𝓤 (H.room e.0 e.1 zero) (⋆ 𝓛 (‵ (fdies e.0 e.1) ∷ Γ)))
      (mono_l 𝓤 (⋆ 𝓛 (‵ (fdies e.0 e.1) ∷ Γ)) (L.at_room e.0 e.1 zero v)) (one e Γ P h)))
      (out_of E (given_up e) P)

  -- ---- the first n entries, and the others

  abbrev pub front : ℕ → List (Item 𝓤) → List (Item 𝓤)
  front n [] = []
  front zero (i ∷ Γ) = []
  front (suc n) (i ∷ Γ) = i ∷ front n Γ

  abbrev pub back : ℕ → List (Item 𝓤) → List (Item 𝓤)
  back n [] = []
  back zero (i ∷ Γ) = i ∷ Γ
  back (suc n) (i ∷ Γ) = back n Γ

  parted : (n : ℕ) (Γ : List (Item 𝓤)) → ent 𝓤 (⋆ 𝓛 Γ) (sep 𝓤 (⋆ 𝓛 (front n Γ)) (⋆ 𝓛 (back n Γ)))
  parted n [] = emp∗ 𝓤 (emp 𝓤)
  parted zero (i ∷ Γ) = emp∗ 𝓤 (⋆ 𝓛 (i ∷ Γ))
  parted (suc n) (i ∷ Γ) =
      let P : SProp 𝓤 = ⋆ 𝓛 (i ∷ []) in
      let F : SProp 𝓤 = ⋆ 𝓛 (front n Γ) in
      let R : SProp 𝓤 = ⋆ 𝓛 (back n Γ) in
      via 𝓤 (sep 𝓤 P (⋆ 𝓛 Γ)) (pop 𝓛 i Γ)
      (via 𝓤 (sep 𝓤 P (sep 𝓤 F R)) (mono_r 𝓤 P (parted n Γ))
      (via 𝓤 (sep 𝓤 (sep 𝓤 P F) R) (assoc' 𝓤 P F R) (mono_l 𝓤 R (push 𝓛 i (front n Γ)))))

-- ---- the steps

module _ {M : Type 1} {𝓤 : Ura M} {𝓛 : Logic 𝓤} {K : Type 0}
    {Γ : List (Item 𝓤)}
    {G : Goal 𝓤 𝓛.H} where
  -- a plain struct owns nothing but what its machine value says
  pub has : K → (T : Declared) (L : LL.Laws T) → Plains (fields T) → (n : T.D) → Is (row T) n (LL.vals T L n)
      → Step K 𝓛 (‵ ((row T).own_val n (LL.vals T L n)) ∷ Γ) G Γ G
  has t T L plains n is = owned t (row T) (Is (row T)) (LL.makes T plains 𝓛) n (LL.vals T L n) is

  -- nor does a `Result` of plain data with a refusal
  pub has_made : K → (D : Data) (r : Made D) → IsMade D r (made_val D r)
      → Step K 𝓛 (‵ ((made_row D).own_val r (made_val D r ∷ [])) ∷ Γ) G Γ G
  has_made t D r is =
      owned t (made_row D) (Is (made_row D)) (EL.makes (made_type D) (R'.the_plain D.row F.the_row D.plain
      F'.the_row_plain) 𝓛) r (made_val D r ∷ []) is

module _ {M : Type 1} {𝓤 : Ura M} {𝓛 : Logic 𝓤} {K : Type 0}
    {Γ : List (Item 𝓤)} where
  open 𝓛 use {H}

  module _ {E : Env 𝓤 H} where
    -- entry n is the cell of the local i, which is read
    pub at_local : K → (n : ℕ) {i : ℕ} {s : Share} {v : Val}
        → nth 𝓛 n Γ ≡ ‵ (fat s (spot_of 𝓤 H E i).0 (spot_of 𝓤 H E i).1 zero v)
        → Opd K 𝓛 Γ E (copy (place i [])) v
    at_local t n e = load t (from t (stop t)) (look t n e)

    -- entry n is the cell of the local i, a struct, of which the field k is read
    pub at_field : K → (n k : ℕ) {i : ℕ} {s : Share} {ν : Sym} {τs : Tys} {b : ℕ} {vs : Vals} {τ : Ty} {d : ℕ}
        → nth 𝓛 n Γ ≡ ‵ (fat s (ty_struct ν τs) b zero (vstruct vs))
        → spot_of 𝓤 H E i ≡ (ty_struct ν τs, b, zero) → field_at zero τs k ≡ some (τ, d)
        → Opd K 𝓛 Γ E (copy (place i (field k ∷ []))) (get_v vs k)
    at_field t n k {s = s} {ν} {τs} {b} {vs} {τ} {d} at spot f =
        load t
        (from t (subst (λ (sp : Spot 𝓤 H). Walks K 𝓛 Γ E sp (field k ∷ []) (τ, b, zero + d)) (sym spot)
        (fld t f (stop t))))
        (look_in t n (subst
        (λ (j : Item 𝓤). Part K 𝓛 j s τ b (zero + d) (get_v vs k)
        (λ (u : Val). ‵ (fat s (ty_struct ν τs) b zero (vstruct (set_v vs k u)))))
        (sym at) (sub t k f (whole t))))

    -- entry n is room for the local i, to which v is assigned
    pub sets : K → {C : Calls 𝓤 H} {Λ : Loops 𝓤 H} {q : Post 𝓤 H} {i : ℕ} {rv : Rvalue} {rest : MBody}
        {v : Val}
        → Rv K 𝓛 Γ E rv v → (n : ℕ) → nth 𝓛 n Γ ≡ ‵ (froom (spot_of 𝓤 H E i).0 (spot_of 𝓤 H E i).1 zero)
        → Holds (has_ty (spot_of 𝓤 H E i).0 v) × WT v
        → Step K 𝓛 (put 𝓛 n (‵ (fat full_share (spot_of 𝓤 H E i).0 (spot_of 𝓤 H E i).1 zero v)) Γ)
        (runs C Λ E rest q) Γ (runs C Λ E (seq (assign (place i []) rv) rest) q)
    sets t r n e typed = assigns t r (from t (stop t)) (init t n e typed)

  module _ {G : Goal 𝓤 H} where
    pub sinks : K → (n : ℕ) → Step K 𝓛 (back 𝓛 n Γ ++ front 𝓛 n Γ) G Γ G
    sinks t n = step (λ s. record {
      prf =
          let F : List (Item 𝓤) = front 𝓛 n Γ in
          let R : List (Item 𝓤) = back 𝓛 n Γ in
          via 𝓤 (sep 𝓤 (⋆ 𝓛 F) (⋆ 𝓛 R)) (parted 𝓛 n Γ)
          (via 𝓤 (sep 𝓤 (⋆ 𝓛 R) (⋆ 𝓛 F)) (comm∗ 𝓤 (⋆ 𝓛 F) (⋆ 𝓛 R))
          (via 𝓤 (⋆ 𝓛 (R ++ F)) (++⊢ 𝓛 R F) s.prf));
    })

    -- the locals lie on top, each with its value: vs has a place for each
    pub leaves : K → {E : Env 𝓤 H} {Γ' : List (Item 𝓤)} (vs : List Val) → Γ ≡ stacked 𝓛 E (map some vs) Γ'
        → Step K 𝓛 Γ' G Γ (frees E G)
    leaves t {E} {Γ'} vs e = step (λ s. record {
      prf = subst (λ (Δ : List (Item 𝓤)). ent 𝓤 (⋆ 𝓛 Δ) (release 𝓤 H E (aim 𝓤 H G))) (sym e)
          (released 𝓛 𝓛.laws E (map some vs) Γ' (aim 𝓤 H G) s.prf);
    })

    pub opens_board : K → Soaks G → {κ : Lft} {q : Share} (x : MutBor Board)
        → (IsBoard x.now → Seq K 𝓛 (opened 𝓤 κ q x x.now Γ) G) → Seq K 𝓛 (borrowed 𝓤 κ q x x.now Γ) G
    opens_board t z x k =
        opens t z B.the_row {h = x.now} x.ref_ptr.0 x.ref_ptr.1 (λ vs.
        spelt t B.the_row (Is B.the_row) (shows 𝓛 B.the_row) (LL.vals B.the_type B'.the_laws)
        (LL.tells B.the_type B'.the_laws) full_share x.now vs x.ref_ptr.0 x.ref_ptr.1 $
        move t (1 ∷ []) $
        peeks t B.the_row (Is B.the_row) (shows 𝓛 B.the_row) x.now (board_val x.now ∷ []) (λ g.
        move t (1 ∷ 0 ∷ []) $ k g))

    pub closes_board : K → Soaks G → {κ : Lft} {q : Share} (x : MutBor Board) (d : Board) → IsBoard d
        → Step K 𝓛 (borrowed 𝓤 κ q x d Γ) G (opened 𝓤 κ q x d Γ) G
    closes_board t z x d is = step (λ s.
        move t (1 ∷ []) $ drop t $
        has t B.the_type B'.the_laws B'.the_plain d is $
        move t (1 ∷ 0 ∷ []) $ closes t z B.the_row d (board_val d ∷ []) x.ref_ptr.0 x.ref_ptr.1 $ s)
