-- A local board lent to a call, and taken back: two steps of the kit's calculus; and the machine value of the
-- pair that is given: what the call gave, and the board that it left.
--     lends-board      the local's cell becomes a reference, for a lifetime ν that is made for the call
--     takes_back       ν is ended, and the cell comes back with the last board under the reference's name
use mathlib.Core.Path.{subst}
use mathlib.Core.List.{List, [], ◌∷◌}
use Prim.Native.Nat.{ℕ}
use lib.Dec.{T as Holds}
use seplogic.Ra.Ura.{Ura}
use base.Fraction.{full_share}
use base.Fml.{GName, fat, fsep, flft, flent, fres}
use base.Logic.{ent, sep}
use denote.Enum.Laws as EL
use denote.Laws.{Is, shows}
use denote.Struct.Declared.{Declared, row, shape}
use denote.Struct.Struct.{layout}
use denote.Struct.Tuple.{tuple_type, parts_laws, AllPlain}
use denote.RattleType.{RattleType}
use denote.Lend.{lends_ref, ref_back}
use denote.Memory.{mem, part_of, cell_at}
use denote.Ref.{MutBor, MutRef}
use denote.Steps.{peeks}
use denote.Struct.Laws as LL
use denote.Struct.Steps.{spelt}
use types.Logic.{Logic, sem}
use mir.Syntax.{Ty, named}
use mir.Val.{Val, WT, has_ty, vptr}
use types.Kit.{Goal, Item, Seq, Soaks, ‵, some, later, ◌⊛◌, ⋆, ◌$◌, ◌∵◌, !, qed, move, drop, use1}
use types.Kit.{use2, use3, split, fsplit, fjoin, fpick, fpack, pick, await, done}
use types.SemTy.{Body}
use types.Tokens.{lft_new, lft_end}
use Rattle.std.proofs.result.Result.TheLaws as R'
use Rattle.board.specs.declared.Board.{Board}
use Rattle.board.specs.contracts.Board as B
use Rattle.board.proofs.Board.TheLaws as B'
use Rattle.board.specs.contracts.Refusal as F
use Rattle.board.proofs.Refusal.TheLaws as F'
use Rattle.lending.proofs.Steps.{board_val, IsBoard, Data, Made, made_type, made_row, made_laws}
use Rattle.lending.proofs.Steps.{made_val, IsMade, has}

module _ (D : Data) where
  abbrev rows : List RattleType
  rows = made_row D ∷ B.the_row ∷ []

  abbrev pub left_type : Declared
  left_type = tuple_type rows

  abbrev pub left_row : RattleType
  left_row = row left_type

  abbrev pub left_laws : LL.Laws left_type
  left_laws =
      parts_laws rows
      (R'.the_row_laws D.row F.the_row D.laws F'.the_row_laws, (B'.the_row_laws, tt))
      (R'.the_told D.row F.the_row D.laws F'.the_row_laws D.told F'.the_told, (B'.the_told, tt))

  abbrev pub left_plain : AllPlain rows
  left_plain = (R'.the_row_plain D.row F.the_row D.plain F'.the_row_plain, (B'.the_row_plain, tt))

  abbrev pub left_ty : Ty
  left_ty = layout (shape left_type)

  abbrev pub left_val : Made D × Board → Val
  left_val = LL.val left_type left_laws

  -- of a `Result` and a board
  pub of_both :
      (r : Made D) (d : Board) → IsMade D r (made_val D r) → IsBoard d
      → Is left_row (r, d) (left_val (r, d) ∷ [])
  of_both r d is d_is = LL.owes left_type left_laws (r, d) (is, (d_is, tt))

  pub left_typed :
      {M : Type 1} {𝓤 : Ura M} → (𝓛 : Logic 𝓤) → (r : Made D) (d : Board)
      → IsMade D r (made_val D r) → IsBoard d
      → Holds (has_ty left_ty (left_val (r, d))) × WT (left_val (r, d))
  left_typed 𝓛 r d is d_is = ((LL.lawful left_type left_laws 𝓛).typed (r, d) _ (of_both r d is d_is)).0

-- a `Result` that has some machine value has its own
pub as_made : (D : Data) (r : Made D) (w : Val) → IsMade D r w → IsMade D r (made_val D r)
as_made D r w is = subst (Is (made_row D) r) (EL.tells (made_type D) (made_laws D) r _ is) is

-- the reference to the local at l, under the name γ, where the board h lies
abbrev pub at : Board → ℕ → GName → MutBor Board
at h l γ = record { ref_ptr = (l, 0); ghost_name = γ; now = h }

-- a board in a local, as what lies there, and back
module _ {M : Type 1} {𝓤 : Ura M} (𝓛 : Logic 𝓤) (h : Board) (l : ℕ) where
  abbrev cell : Item 𝓤
  cell = ‵ (fat full_share B'.mir l 0 (board_val h))

  abbrev own : Item 𝓤
  own = ‵ ((B.the_row).own_val h (board_val h ∷ []))

  lies_in : ent 𝓤 (⋆ 𝓛 (cell ∷ own ∷ [])) (sem 𝓛 ((mem B.the_row).own_at h l 0))
  unfolding part_of
  lies_in =
      qed 𝓛 (cell ∷ own ∷ []) ∵
      use1 𝓛 (‵ (cell_at full_share (B.the_row).mir (board_val h ∷ []) l 0))
      (𝓛.laws.at_raw full_share B'.mir l 0 (board_val h)) $
      fjoin ! $
      fpack ! (List Val) (λ vs. fsep (cell_at full_share (B.the_row).mir vs l 0) ((B.the_row).own_val h vs))
      (board_val h ∷ []) $ done !

  lies_out :
      ent 𝓤 (sem 𝓛 ((mem B.the_row).own_at h l 0))
      (sep 𝓤 (sem 𝓛 (fat full_share B'.mir l 0 (board_val h)))
      (sem 𝓛 ((B.the_row).own_val h (board_val h ∷ []))))
  unfolding part_of
  lies_out =
      qed 𝓛 (‵ ((mem B.the_row).own_at h l 0) ∷ []) ∵
      fpick ! (λ vs. fsplit ! $
      spelt ! B.the_row (Is B.the_row) (shows 𝓛 B.the_row) (LL.vals B.the_type B'.the_laws)
      (LL.tells B.the_type B'.the_laws) full_share h vs l 0 $
      use1 𝓛 cell (𝓛.laws.raw_at full_share B'.mir l 0 (board_val h)) $ done !)

module _ {M : Type 1} {𝓤 : Ura M} {𝓛 : Logic 𝓤} {K : Type 0}
    {Γ : List (Item 𝓤)}
    {G : Goal 𝓤 𝓛.H} where
  pub lends_board : K → Soaks G → (h : Board) → IsBoard h → (l : ℕ)
      → ((ν : ℕ) (γ : GName) → Seq K 𝓛
      (‵ (flft (ν ∷ []) full_share) ∷ ‵ ((MutRef (named 0) (ν ∷ []) B.the_row).own_val (at h l γ) (vptr l 0 ∷ []))
      ∷ ‵ (flent (ν ∷ []) (Body (mem B.the_row) l 0 γ)) ∷ Γ) G)
      → Seq K 𝓛 (‵ (fat full_share B'.mir l 0 (board_val h)) ∷ Γ) G
  lends_board t z h is l k =
      has t B.the_type B'.the_laws B'.the_plain h is $
      move t (1 ∷ 0 ∷ []) $ use2 𝓛 (‵ ((mem B.the_row).own_at h l 0)) (lies_in 𝓛 h l) $
      lft_new t z (λ ν. move t (1 ∷ []) $
      use1 𝓛 (later (some (λ (γ : GName). ‵
      ((MutRef (named 0) (ν ∷ []) B.the_row).own_val (at h l γ) (vptr l 0 ∷ []))
      ⊛ ‵ (flent (ν ∷ []) (Body (mem B.the_row) l 0 γ)))))
      (lends_ref 𝓛 B.the_row (named 0) (ν ∷ []) h l 0) $
      await t z $ pick t (λ γ. split t $ move t (2 ∷ []) $ k ν γ))

  pub takes_back : K → Soaks G → {ν : ℕ} {γ : GName} (d : Board) (l : ℕ)
      → (IsBoard d → Seq K 𝓛 (‵ (fat full_share B'.mir l 0 (board_val d)) ∷ Γ) G)
      → Seq K 𝓛 (‵ (flft (ν ∷ []) full_share) ∷ ‵ (flent (ν ∷ []) (Body (mem B.the_row) l 0 γ))
      ∷ ‵ (fres γ ((B.the_row).coded.code d)) ∷ Γ) G
  takes_back t z {ν} {γ} d l k =
      lft_end t z $
      use3 𝓛 (later (‵ ((mem B.the_row).own_at d l 0))) (ref_back 𝓛 B.the_row (ν ∷ []) γ d l 0) $
      await t z $
      use1 𝓛 (‵ (fat full_share B'.mir l 0 (board_val d)) ⊛ ‵ ((B.the_row).own_val d (board_val d ∷ [])))
      (lies_out 𝓛 d l) $
      split t $ move t (1 ∷ []) $
      peeks t B.the_row (Is B.the_row) (shows 𝓛 B.the_row) d (board_val d ∷ []) (λ g. drop t $ k g)
