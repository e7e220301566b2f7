-- One walk for admit, act and withdraw, run lent on a board by value: over the `Call` of the lent layer.
--     fn f(b: Board, list: &mut [u32], q: Q) -> (Result<S, Refusal>, Board) {
--         let mut board = b; let given = live::f(&mut board, list, q); (given, board) }
--     once-.., once    the signature and contract and the MIR, as `rattle check` makes them of each call
--     runs-once        where the lent call meets its contract, this meets its own
-- The board goes into a local, which is lent to the call and taken back with what the call left there.
use mathlib.Core.Path.{◌≡◌, refl, ap}
use mathlib.Core.List.{List, [], ◌∷◌}
use Prim.Native.Nat.{ℕ}
use lib.ListN.{length}
use seplogic.Ra.Ura.{Ura}
use base.Fraction.{full_share}
use mir.Syntax.{Callee, Fn, named, erased, mut, w32, ty_int, ty_ref, local, value_local, memory_slot, place, deref}
use mir.Syntax.{field, copy, rv_opd, addr_of, aggregate, assign, call, seq, return}
use mir.Val.{Val, vptr}
use base.Logic.{SProp, ent, emp, via, fst∗, id⊢}
use base.Fml.{GName, Lft, Share, ftrue, fat, flft, fres, fbor}
use types.Hole.{Holey}
use types.SemTy.{Body, Arr}
use prog.Wp.{Calls, Loops, WpFn, Tables}
use types.Logic.{Logic}
use contract.Monad.{fact}
use types.Kit.{Item, ‵, raw, some, later, given, ◌⊛◌, ⋆, mean, ◌$◌, ◌∵◌, !, qed, by, move, keep, use1}
use types.Kit.{use3, split, join, pick, learn, rewrite, fsplit, fjoin, feq_l, suffices, frame, await, updating}
use types.Kit.{now as at_once, show, check, done}
use types.Run.{look, init, stop, hop, fld, from, addr, of_opd, and_then, no_more, land, returns, enter}
use types.Run.{alloc1, alloc0, params1, pass1, pass0}
use types.Part.{agg, whole, sub, look_in}
use sound.WpLaws.{FmC, fm_of, WpFn-mono}
use denote.RattleType.{owns}
use denote.Memory.{mem, pointee}
use denote.Enum.Laws as EL
use denote.Laws.{Is, shows}
use denote.Builtin.{u32, SliceRefMutOf}
use denote.Ref.{MutBor, MutRef}
use denote.Slice.{slice_val, MutSlice, Room, finally, mut_slice_vals, mut_slice_Tells}
use denote.Signature.{plain}
use denote.Steps.{only, peeks, heard, nothing}
use denote.Struct.Declared.{shape}
use denote.Struct.Laws as LL
use denote.Struct.Struct.{layout}
use denote.Triple.Entry.{on_entry}
use denote.Triple.Spec.{Meets, triple_of}
use denote.Triple.Statement.{Contract, Triple}
use denote.Triple.Call.{calls_at}
use denote.Triple.Clauses.{Ended, Clauses, closing, ensured, lasts}
use denote.Triple.Walked.{says, Stays, stay_none, gave_slice, walk_of, Goes-none, Goes-gave_slice, Walks}
use denote.Triple.Walked.{ends_at, walked, walk_Meets}
use denote.Exit.{yes, Last}
use Rattle.board.specs.declared.Board.{Board}
use Rattle.board.specs.contracts.Board as B
use Rattle.board.proofs.Board.TheLaws as B'
use Rattle.lending.proofs.Layer.{Call, Q, ask_val, Given, given_row, given_answer, lent_ended, lent_clauses}
use Rattle.lending.proofs.Steps.{board_val, IsBoard, entry_ref, list_ref, board_typed, Data, made_type}
use Rattle.lending.proofs.Steps.{made_laws, made_ty, made_val, IsMade, made_typed, at_local, at_field, sets}
use Rattle.lending.proofs.Steps.{has, sinks, leaves}
use Rattle.lending.proofs.Telling.{told}
use Rattle.lent_once.proofs.Lending.{left_type, left_row, left_laws, left_plain, left_ty, left_val, of_both}
use Rattle.lent_once.proofs.Lending.{left_typed, as_made, at, lends_board, takes_back}

module _ (c : Call) where
  -- what the call gives, with its laws
  abbrev D : Data
  D = told c.telling

  -- ---- the signature, the contracts and the MIR

  abbrev pub once_ended : Ended
  once_ended = record {
    signature = record {
      lifetimes = 1;
      outlives = [];
      params = plain (λ _. B.the_row) ∷ SliceRefMutOf (0 ∷ []) tt (plain (λ _. u32)) (λ _. tt)
          ∷ plain (λ _. Q c) ∷ [];
      result = plain (λ _. left_row D);
    };
    kept = (yes, (yes, (yes, tt)));
  }

  abbrev pub once_clauses : {M : Type 1} (𝓤 : Ura M) → Clauses 𝓤 once_ended
  once_clauses 𝓤 κs a = record {
    ghost = Unit {0};
    requires = λ _. emp 𝓤;
    ensures = λ _ r e. fact 𝓤
        (c.Promise a.0 a.1.0.now a.1.1.0 (given_answer c r.0) r.1 e.1.0.now);
  }

  abbrev pub Lent : {M : Type 1} {𝓤 : Ura M} (𝓛 : Logic 𝓤) → Contract 𝓤
  Lent {𝓤 = 𝓤} 𝓛 = triple_of 𝓛 (lent_ended c).signature (closing 𝓛 (lent_ended c) (lent_clauses c 𝓤))

  -- at the end the list's borrow was given to the call for good
  abbrev stayed : Stays once_ended.signature.params once_ended.kept
  stayed = (
    stay_none (λ _. B.the_row) yes,
    (gave_slice (0 ∷ []) tt (plain (λ _. u32)), (stay_none (λ _. Q c) yes, tt)),
  )

  -- _1 is b, _2 list, _3 q, _4 board, _5 what the call gave; _6 the local lent, _7 and _8 the list lent on,
  -- _9 a copy of the board
  abbrev pub once : Callee → Fn
  once f = record {
    lifetimes = 1;
    outlives = [];
    ty_params = [];
    givens = 0;
    params = 3;
    locals = local (left_ty D) value_local ∷ local B'.mir value_local ∷ local (list_ref (named 0)) value_local
        ∷ local (layout (shape c.asked)) value_local ∷ local B'.mir memory_slot
        ∷ local (made_ty D) value_local ∷ local (ty_ref erased mut (pointee (B.the_row).written)) value_local
        ∷ local (entry_ref erased) value_local
        ∷ local (list_ref erased) value_local ∷ local B'.mir value_local ∷ [];
    body = seq (assign (place 4 []) (rv_opd (copy (place 1 []))))
        (seq (assign (place 6 []) (addr_of (place 4 [])))
        (seq (assign (place 7 []) (addr_of (place 2 (field 0 ∷ deref (ty_int w32) ∷ []))))
        (seq (assign (place 8 []) (aggregate (copy (place 7 []) ∷ copy (place 2 (field 1 ∷ [])) ∷ [])))
        (seq (call f (copy (place 6 []) ∷ copy (place 8 []) ∷ copy (place 3 []) ∷ []) (place 5 []))
        (seq (assign (place 9 []) (rv_opd (copy (place 4 []))))
        (seq (assign (place 0 []) (aggregate (copy (place 5 []) ∷ copy (place 9 []) ∷ []))) return))))));
  }

  -- ---- the walk, at a board h, a reference y to the list, and n asked

  module _ {M : Type 1} {𝓤 : Ura M} (𝓛 : Logic 𝓤) (κ : Lft) (q : Share)
      (h : Board) (h_is : IsBoard h) (y : MutBor (List ℕ)) (n : c.asked.D)
      (n-is : Is (Q c) n (ask_val c n ∷ [])) where
    open 𝓛 use {H}

    abbrev s : Val
    s = slice_val y.ref_ptr (length y.now)

    abbrev args : Board × (MutBor (List ℕ) × (c.asked.D × Unit {0}))
    args = (h, (y, (n, tt)))

    abbrev vals : List Val × (List Val × (List Val × Unit {0}))
    vals = (board_val h ∷ [], (s ∷ [], (ask_val c n ∷ [], tt)))

    -- what is to be shown of the machine value that is returned
    abbrev Post : Val → SProp 𝓤
    Post = (walk_of 𝓛 once_ended stayed (once_clauses 𝓤)).post (((κ, tt), (q, tt), tt, args, vals), tt)

    abbrev Promised : Given c → Board → List ℕ → Type 0
    Promised r = c.Promise h y.now n (given_answer c r)

    -- the list's token; the list lent; its last entries
    abbrev token : Item 𝓤
    token = ‵ (flft κ q) ⊛ ‵ ftrue

    abbrev list : Item 𝓤
    list = ‵ ((MutSlice (named 0) κ u32).own_val y (s ∷ []))

    -- what stays of the list's borrow
    abbrev rest_of_list : Item 𝓤
    rest_of_list = ‵ (fbor κ (Body (Arr (Holey (mem u32)) (length y.now)) y.ref_ptr.0 y.ref_ptr.1 y.ghost_name))

    abbrev spent : List ℕ → Item 𝓤
    spent zs = token ⊛ (‵ (finally u32 y.ghost_name zs) ⊛ rest_of_list)

    -- what there is on entry, taken apart
    entry : ent 𝓤 (on_entry 𝓛 once_ended.signature (κ, tt) (q, tt) args vals)
        (⋆ 𝓛 (token ∷ list ∷ []))
    entry =
        qed 𝓛 (token ∷ ‵ (owns (B.the_row ∷ MutSlice (named 0) κ u32 ∷ Q c ∷ []) args vals) ∷ []) ∵
        move ! (1 ∷ []) $ fsplit ! $ move ! (1 ∷ []) $ fsplit ! $
        -- [the list; the request; the board; the token]
        keep ! (3 ∷ 0 ∷ []) $ done !

    -- how the walk ends: with r given and the board d
    exits : (r : Given c) (d : Board) (zs : List ℕ) → Promised r d zs → length zs ≡ length y.now
        → IsMade D r (made_val D r) → IsBoard d
        → ent 𝓤 (⋆ 𝓛 (spent zs ∷ [])) (Post (left_val D (r, d)))
    exits r d zs promised long is d_is =
        qed 𝓛 (spent zs ∷ []) ∵
        suffices ! _
        (ends_at 𝓛 once_ended stayed (once_clauses 𝓤) (((κ, tt), (q, tt), tt, args, vals), tt)
        (left_val D (r, d)) (r, d) (tt, (zs, (c.last n, tt))) (tt, (long, (tt, tt)))) $
        says ! promised $ split ! $ frame ! $ split ! $ fjoin ! $
        -- what is had of the request, the list and the board, and of the result
        nothing ! $ has ! c.asked c.laws c.plains n n-is $ fjoin ! $
        move ! (1 ∷ 0 ∷ []) $ fjoin ! $
        has ! B.the_type B'.the_laws B'.the_plain h h_is $ fjoin ! $
        has ! (left_type D) (left_laws D) (left_plain D) (r, d) (of_both D r d is d_is) $
        move ! (1 ∷ 0 ∷ []) $ done !

    -- at the local l, lent for the lifetime ν under the name γ
    module _ (ν l : ℕ) (γ : GName) where
      abbrev ref : Item 𝓤
      ref = ‵ ((MutRef (named 0) (ν ∷ []) B.the_row).own_val (at h l γ) (vptr l 0 ∷ []))

      -- what the lent call is called with, and asks for
      abbrev to_lent : (Lent 𝓛).Ghost
      to_lent = (
        (
          (ν ∷ [], (κ, tt)),
          (full_share, (q, tt)),
          tt,
          (at h l γ, (y, (n, tt))),
          (vptr l 0 ∷ [], (s ∷ [], (ask_val c n ∷ [], tt))),
        ),
        tt,
      )

      goes :
          ent 𝓤 (⋆ 𝓛 ((‵ (flft (ν ∷ []) full_share) ⊛ token) ∷ ref ∷ list ∷ [])) ((Lent 𝓛).pre to_lent)
      goes =
          qed 𝓛 ((‵ (flft (ν ∷ []) full_share) ⊛ token) ∷ ref ∷ list ∷ []) ∵
          nothing ! $ has ! c.asked c.laws c.plains n n-is $ fjoin ! $
          move ! (3 ∷ 0 ∷ []) $ fjoin ! $ move ! (2 ∷ 0 ∷ []) $ fjoin ! $
          move ! (1 ∷ 0 ∷ []) $ join ! $ frame ! $ done !

      -- what it gives: some r, board d and last entries zs, as promised
      abbrev found : Val → Given c → Board → List ℕ → Item 𝓤
      found w r d zs =
          given (length zs ≡ length y.now) (given (Promised r d zs × IsMade D r w)
          (‵ (flft (ν ∷ []) full_share) ⊛ (‵ (fres γ ((B.the_row).coded.code d)) ⊛ spent zs)))

      abbrev some_found : Val → Given c → Item 𝓤
      some_found w r = some (λ (d : Board). some (found w r d))

      came : (w : Val) → ent 𝓤 ((Lent 𝓛).post to_lent w) (mean 𝓛 (later (some (some_found w))))
      came w =
          qed 𝓛
          (later (some (λ (r : Given c). ((‵ (flft (ν ∷ []) full_share) ⊛ token)
          ⊛ ‵ ((given_row c).own_val r (w ∷ [])))
          ⊛ raw (ensured 𝓛 (lent_ended c) (lent_clauses c 𝓤) (ν ∷ [], (κ, tt)) (at h l γ, (y, (n, tt))) tt
          r)))
          ∷ []) ∵
          updating ! $ await ! tt $ pick ! (λ r. split ! $ move ! (1 ∷ []) $
          use1 𝓛 (some (λ (zs : Board × (List ℕ × (Last ((Q c).exit yes) n × Unit {0}))).
          ‵ (lasts (lent_ended c) (ν ∷ [], (κ, tt)) (at h l γ, (y, (n, tt))) zs)
          ⊛ raw (fact 𝓤 (Promised r zs.0 zs.1.0)))) (id⊢ 𝓤 _) $
          pick ! (λ zs. split ! $ move ! (1 ∷ []) $ heard ! (Promised r zs.0 zs.1.0) (λ e.
          -- [what is last of board, list and request; the tokens and what r owns]
          fsplit ! $ move ! (1 ∷ []) $ fsplit ! $ fsplit ! $ fsplit ! $ move ! (1 ∷ []) $ feq_l ! (λ long.
          -- [the list's last entries; what stays of its borrow; the request's; the last board; the tokens and
          -- what r owns]
          move ! (4 ∷ []) $ split ! $ split ! $ move ! (2 ∷ []) $
          peeks ! (given_row c) (Is (given_row c)) (shows 𝓛 (given_row c)) r (w ∷ []) (λ is.
          -- [what r owns; the local's token; the list's; its last entries; what stays of its borrow;
          -- the request's; the last board]
          at_once ! $ show ! (λ (o : Given c). mean 𝓛 (some_found w o)) r $
          show ! (λ (d : Board). mean 𝓛 (some (found w r d))) zs.0 $
          show ! (λ (us : List ℕ). mean 𝓛 (found w r zs.0 us)) zs.1.0 $
          check ! long $ check ! (e, is) $ move ! (3 ∷ 4 ∷ []) $ join ! $ move ! (3 ∷ 0 ∷ []) $ join ! $
          move ! (4 ∷ []) $ fsplit ! $ keep ! (4 ∷ 0 ∷ 2 ∷ []) $
          done !)))))

    module _ (C : Calls 𝓤 H) (Λ : Loops 𝓤 H) (f : Callee) (fm : FmC 𝓤 H 𝓛.laws C)
        (known : Triple 𝓤 (C f) (Lent 𝓛)) where
      walk : Room u32 (length y.now)
          → ent 𝓤 (on_entry 𝓛 once_ended.signature (κ, tt) (q, tt) args vals)
          (WpFn 𝓤 H C Λ (once f) (board_val h ∷ s ∷ ask_val c n ∷ []) Post)
      walk room =
          via 𝓤 (⋆ 𝓛 (token ∷ list ∷ [])) entry
          (qed 𝓛 (token ∷ list ∷ []) ∵ enter ! C Λ (once f) (board_val h ∷ s ∷ ask_val c n ∷ []) _ $
          alloc1 ! (λ l₀. alloc1 ! (λ l₁. alloc1 ! (λ l₂. alloc1 ! (λ l₃. alloc1 ! (λ l₄. alloc1 ! (λ l₅.
          alloc1 ! (λ l₆. alloc1 ! (λ l₇. alloc1 ! (λ l₈. alloc1 ! (λ l₉. alloc0 ! $
          -- the arguments: [_9; …; _8; …; .. _0; …; the list's token; the list]
          params1 ! $ pass1 ! (init ! 16 refl (board_typed 𝓛 h h_is)) $
          pass1 ! (init ! 14 refl (tt, (tt, (record { fits = room.0 }, tt)))) $
          pass1 ! (init ! 12 refl ((LL.lawful c.asked c.laws 𝓛).typed n _ n-is).0) $ pass0 ! $
          -- board = b
          sets ! (of_opd ! (at_local ! 16 refl)) 10 refl (board_typed 𝓛 h h_is) $
          -- _6 = &mut board
          sets ! (addr ! (from ! (stop !))) 6 refl (tt, tt) $
          -- _7 = the place of the list's entries, _8 = that and the list's length
          sets ! (addr ! (from ! (fld ! refl (hop ! (look_in ! 14 (sub ! 0 refl (whole !))) (stop !)))))
          4 refl (tt, tt) $
          sets ! (agg ! (and_then ! (at_local ! 4 refl)
          (and_then ! (at_field ! 14 1 refl refl refl) (no_more !)))) 2 refl
          (tt, (tt, (record { fits = room.0 }, tt))) $
          -- the local is lent
          move ! (10 ∷ []) $ lends_board ! tt h h_is l₄ (λ ν γ.
          -- [its token; the reference; the lender's part; _9; …; .. _0; …; the list's token; the list]
          move ! (0 ∷ 22 ∷ 1 ∷ 23 ∷ []) $ join ! $
          -- the call: _5 = f(_6, _8, _3)
          use3 𝓛 (raw ((Lent 𝓛).pre (to_lent ν l₄ γ))) (goes ν l₄ γ) $
          calls_at ! fm (Lent 𝓛) known (to_lent ν l₄ γ)
          (and_then ! (at_local ! 8 refl)
          (and_then ! (at_local ! 4 refl) (and_then ! (at_local ! 13 refl) (no_more !))))
          (λ w. use1 𝓛 (later (some (some_found ν l₄ γ w))) (came ν l₄ γ w) $ await ! tt $
          pick ! (λ r. pick ! (λ d. pick ! (λ zs. learn ! (λ long. learn ! (λ k.
          -- [its token, the last board and the list, spent; the lender's part; _9; …]
          land ! (from ! (stop !)) (init ! 10 refl (made_typed D 𝓛 r k.1)) $
          rewrite ! 10 (λ (u : Val). ‵ (fat full_share (made_ty D) l₅ 0 u))
          (ap only (EL.tells (made_type D) (made_laws D) r _ k.1)) refl $
          -- the local is taken back, and its cell put among the others
          split ! $ move ! (1 ∷ []) $ split ! $ move ! (2 ∷ 3 ∷ 0 ∷ []) $ takes_back ! tt d l₄ (λ g.
          move ! (1 ∷ 2 ∷ 3 ∷ 4 ∷ 5 ∷ 6 ∷ 7 ∷ 8 ∷ 9 ∷ 10 ∷ 11 ∷ 0 ∷ []) $
          -- [the list, spent; _9; …; .. _0; …]: _9 = board
          sets ! (of_opd ! (at_local ! 11 refl)) 1 refl (board_typed 𝓛 d g) $
          -- the result is made, and the locals are freed
          sets ! (agg ! (and_then ! (at_local ! 9 refl) (and_then ! (at_local ! 1 refl) (no_more !)))) 19 refl
          (left_typed D 𝓛 r d (as_made D r w k.1) g) $
          returns ! (look ! 19 refl) $ sinks ! 1 $
          leaves ! (_ ∷ _ ∷ _ ∷ _ ∷ _ ∷ _ ∷ _ ∷ _ ∷ _ ∷ _ ∷ []) refl $
          by ! (exits r d zs k.0 long (as_made D r w k.1) g))))))))))))))))))))

  -- ---- the theorem

  module _ {M : Type 1} {𝓤 : Ura M} (𝓛 : Logic 𝓤) where
    open 𝓛 use {H}

    walks :
        (f : Callee) (C : Calls 𝓤 H) (Λ : Loops 𝓤 H) → FmC 𝓤 H 𝓛.laws C → Triple 𝓤 (C f) (Lent 𝓛)
        → Walks 𝓛 once_ended stayed (WpFn 𝓤 H C Λ (once f)) (once_clauses 𝓤)
    walks f C Λ fm known =
        walked 𝓛 once_ended stayed (once_clauses 𝓤) (WpFn 𝓤 H C Λ (once f))
        (λ κs. (LL.vals B.the_type B'.the_laws, (mut_slice_vals, ((λ n. ask_val c n ∷ []), tt))))
        (λ κs. (
          LL.tells B.the_type B'.the_laws,
          (mut_slice_Tells (named 0) κs.0 u32, (LL.tells c.asked c.laws, tt)),
        ))
        (λ κs qs bounds a g are. via 𝓤 _ (fst∗ 𝓤 _ (emp 𝓤))
        (walk 𝓛 κs.0 qs.0 a.0 are.0 a.1.0 a.1.1.0 are.1.1.0
        C Λ f fm known are.1.0.0.1))

    pub runs_once :
        (f : Callee) (𝓣 : Tables 𝓤 H) → Triple 𝓤 (𝓣.C f) (Lent 𝓛)
        → Meets 𝓛 once_ended.signature (WpFn 𝓤 H 𝓣.C 𝓣.Λ (once f))
        (closing 𝓛 once_ended (once_clauses 𝓤))
    runs_once f 𝓣 known =
        walk_Meets 𝓛 once_ended stayed (
          Goes-none 𝓛 1 (λ _. B.the_row) yes (λ κs x f. refl),
          (
            Goes-gave_slice 𝓛 1 0 tt (plain (λ _. u32)),
            (Goes-none 𝓛 1 (λ _. Q c) yes (λ κs. c.silent), tt),
          ),
        )
        (once_clauses 𝓤) (WpFn 𝓤 H 𝓣.C 𝓣.Λ (once f)) (WpFn-mono 𝓤 H 𝓛.laws 𝓣 (once f))
        (walks f 𝓣.C 𝓣.Λ (fm_of 𝓤 H 𝓛.laws 𝓣) known)
