-- One walk for admit, act and withdraw, lent: over the request's type, what an accepted call answers, the
-- call by value and its promise.
--     fn f(b: &mut Board, list: &mut [u32], q: Q) -> Result<S, Refusal> {
--         match value::f(*b, list, q) {
--             Ok(accepted) => { *b = accepted.board; Ok(()) }      or Ok(accepted.serial)
--             Err(refusal) => Err(refusal),
--         } }
--     Call             what one of them asks, answers and promises
--     value-.., lent-..    the two signatures and contracts and the layer's MIR, as `rattle check` makes them
--                      of each call; a call's own compute to these
--     layer            where the call by value meets its contract, the lent one meets its own
-- The borrow of the board is opened and the board copied out. The call gets the copy, and the borrow of the
-- list for good. If it accepted, the board that it gave is stored over the old one; if not, it gave no board,
-- and its promise is of the old one. The borrow is closed at the board that lies there.
use mathlib.Core.Path.{◌≡◌, refl, ap}
use mathlib.Core.List.{List, [], ◌∷◌, ◌++◌}
use mathlib.Core.Option.{Option, none, some as given_val}
use Prim.Native.Nat.{ℕ}
use lib.ListN.{length}
use seplogic.Ra.Ura.{Ura}
use base.Fraction.{full_share}
use mir.Syntax.{Callee, Fn, Body as MBody, named, erased, w8, w32, ty_int, local, value_local, place, deref}
use mir.Syntax.{field, variant, copy, int, rv_opd, addr_of, aggregate, assign, call, seq, return, switch, arm}
use mir.Syntax.{no_default}
use mir.Val.{Val, vptr}
use base.Logic.{SProp, ent, emp, via, fst∗, id⊢}
use base.Fml.{Lft, Share, ftrue, fat, froom, fdies, flft, fbor}
use types.Hole.{Holey}
use types.SemTy.{Body, Arr}
use denote.Memory.{mem}
use prog.Wp.{Env, Calls, Loops, Wp, WpFn, Tables, at_return, after_seq}
use types.Logic.{Logic}
use contract.Monad.{fact}
use types.Kit.{Post as After, Item, at_ret, any_q, ‵, raw, some, later, given, ◌⊛◌, ⋆, mean, ◌$◌, ◌∵◌, !, qed}
use types.Kit.{by, move, keep, use1, use2, split, join, pick, learn, rewrite, fsplit, fsplit3, fjoin, fjoin3}
use types.Kit.{feq_l, feq_i, suffices, frame, await, updating, now as at_once, show, check, done}
use types.Run.{look, look_raw, init, forget, store_raw, stop, hop, fld, from, load, addr, lit, of_opd}
use types.Run.{and_then, no_more, assigns, assigns_last, first, switches_on, exec, land, returns, enter}
use types.Run.{alloc1, params1, pass1, pass0}
use types.Match.{vrt, in_variant, look_tag}
use types.Part.{agg, whole, sub, look_in}
use sound.WpLaws.{FmC, fm_of, WpFn-mono}
use denote.RattleType.{RattleType, owns}
use denote.Enum.Laws as EL
use denote.Laws.{Is, shows}
use denote.Builtin.{u32, RefMutOf, SliceRefMutOf}
use denote.Ref.{MutBor, MutRef, mut_vals, mut_Tells}
use denote.Slice.{slice_val, MutSlice, Room, finally, mut_slice_vals, mut_slice_Tells}
use denote.Signature.{plain}
use denote.Steps.{only, peeks, heard, nothing}
use denote.Struct.Declared.{Declared, fields, shape, row}
use denote.Struct.Laws as LL
use denote.Struct.Struct.{Plains, layout}
use denote.Triple.Entry.{on_entry}
use denote.Triple.Spec.{Meets, triple_of}
use denote.Triple.Statement.{Contract, Triple}
use denote.Triple.Call.{calls_at}
use denote.Triple.Clauses.{Ended, Clauses, closing, ensured, lasts}
use denote.Triple.Walked.{says, Stays, stay_ref, stay_none, gave_slice, walk_of, Goes-ref, Goes-none}
use denote.Triple.Walked.{Goes-gave_slice, Walks, ends_at, walked, walk_Meets}
use denote.Exit.{yes, Last, left}
use Rattle.std.specs.Prelude.{Ok, Err}
use Rattle.board.specs.declared.Answer.{Answer}
use Rattle.board.specs.declared.Board.{Board}
use Rattle.board.specs.Answers.{done_answer}
use Rattle.board.specs.Refusals.{answered}
use Rattle.board.specs.contracts.Board as B
use Rattle.board.proofs.Board.TheLaws as B'
use Rattle.board.proofs.Refusal.TheLaws as F'
use Rattle.outcomes.specs.declared.Accepted.{Accepted}
use Rattle.outcomes.specs.Outcomes.{answer_of, board_left}
use Rattle.outcomes.proofs.Accepted.TheLaws as A'
use Rattle.lending.proofs.Steps.{board_val, IsBoard, board_typed, accepted, accepted_typed, refusal_typed}
use Rattle.lending.proofs.Steps.{is_board, Made, made_type, made_row, made_laws, made_ty, made_val, IsMade}
use Rattle.lending.proofs.Steps.{IsIn, of_ok, of_err, in_ok, in_err, made_typed, board_ref, entry_ref}
use Rattle.lending.proofs.Steps.{list_ref, stacked, borrowed, opened, at_local, at_field, sets, has, has_made}
use Rattle.lending.proofs.Steps.{opens_board, closes_board, sinks}
use Rattle.lending.proofs.Telling.{Telling, told, done as done_of, told_of, is_told, more, tail, extra, spare}
use Rattle.lending.proofs.Telling.{alloc_more, answers, leaves_more}

-- What a call asks, a plain struct with its laws, of which nothing is left at the end; what it answers where
-- it is accepted; its promise, over the board, the list, what is asked, the answer, the board left and the
-- list left; and that the lent call's answer keeps it where that of the call by value, with the serial, does.
pub record Call : Type 2 where
  pub asked : Declared
  pub laws : LL.Laws asked
  pub plains : Plains (fields asked)
  pub last : (n : asked.D) → Last ((row asked).exit yes) n
  pub silent : (n : asked.D) (f : Last ((row asked).exit yes) n) → left ((row asked).exit yes) n f ≡ ftrue
  pub telling : Telling
  pub Promise : Board → List ℕ → asked.D → Answer → Board → List ℕ → Type 0
  pub tells :
      (b : Board) (l : List ℕ) (n : asked.D) (a : Accepted) (l' : List ℕ)
      → Promise b l n (done_answer a.serial.0) a.board l'
      → Promise b l n (done_of telling (told_of telling a)) a.board l'

module _ (c : Call) where
  abbrev pub Q : RattleType
  Q = row c.asked

  abbrev pub ask_val : c.asked.D → Val
  ask_val = LL.val c.asked c.laws

  -- what the lent call gives
  abbrev pub Given : Type 0
  Given = Made (told c.telling)

  abbrev pub given_row : RattleType
  given_row = made_row (told c.telling)

  -- and the answer that it stands for
  abbrev pub given_answer : Given → Answer
  given_answer r = answered (done_of c.telling) r

  -- ---- the signatures and contracts

  abbrev pub value_ended : Ended
  value_ended = record {
    signature = record {
      lifetimes = 1;
      outlives = [];
      params = plain (λ _. B.the_row) ∷ SliceRefMutOf (0 ∷ []) tt (plain (λ _. u32)) (λ _. tt)
          ∷ plain (λ _. Q) ∷ [];
      result = plain (λ _. made_row accepted);
    };
    kept = (yes, (yes, (yes, tt)));
  }

  abbrev pub lent_ended : Ended
  lent_ended = record {
    signature = record {
      lifetimes = 2;
      outlives = [];
      params = RefMutOf (0 ∷ []) tt (plain (λ _. B.the_row)) (λ _. tt)
          ∷ SliceRefMutOf (1 ∷ []) tt (plain (λ _. u32)) (λ _. tt) ∷ plain (λ _. Q) ∷ [];
      result = plain (λ _. given_row);
    };
    kept = (yes, (yes, (yes, tt)));
  }

  abbrev pub value_clauses : {M : Type 1} (𝓤 : Ura M) → Clauses 𝓤 value_ended
  value_clauses 𝓤 κs a = record {
    ghost = Unit {0};
    requires = λ _. emp 𝓤;
    ensures = λ _ r e. fact 𝓤
        (c.Promise a.0 a.1.0.now a.1.1.0 (answer_of r) (board_left a.0 r) e.1.0.now);
  }

  abbrev pub lent_clauses : {M : Type 1} (𝓤 : Ura M) → Clauses 𝓤 lent_ended
  lent_clauses 𝓤 κs a = record {
    ghost = Unit {0};
    requires = λ _. emp 𝓤;
    ensures = λ _ r e. fact 𝓤
        (c.Promise a.0.now a.1.0.now a.1.1.0 (given_answer r) e.0.now e.1.0.now);
  }

  abbrev pub Value : {M : Type 1} {𝓤 : Ura M} (𝓛 : Logic 𝓤) → Contract 𝓤
  Value {𝓤 = 𝓤} 𝓛 = triple_of 𝓛 value_ended.signature (closing 𝓛 value_ended (value_clauses 𝓤))

  -- at the end the board's borrow is still there, the list's was given to the call for good
  abbrev stayed : Stays lent_ended.signature.params lent_ended.kept
  stayed = (
    stay_ref (0 ∷ []) tt (plain (λ _. B.the_row)),
    (gave_slice (1 ∷ []) tt (plain (λ _. u32)), (stay_none (λ _. Q) yes, tt)),
  )

  -- ---- the MIR. _1 is b, _2 list, _3 q, _4 accepted, _5 refusal, _6 what the call gave; _7 the copy of the
  -- board, _8 and _9 the list lent on, _10 what is given, _11 the board to be stored

  abbrev accepts : MBody
  accepts =
      seq (assign (place 4 []) (rv_opd (copy (place 6 (variant 0 ∷ field 1 ∷ [])))))
      (seq (assign (place 11 []) (rv_opd (copy (place 4 (field 0 ∷ [])))))
      (seq (assign (place 1 (deref B'.mir ∷ [])) (rv_opd (copy (place 11 []))))
      (tail c.telling)))

  abbrev refuses : MBody
  refuses =
      seq (assign (place 5 []) (rv_opd (copy (place 6 (variant 1 ∷ field 1 ∷ [])))))
      (assign (place 10 []) (aggregate (int w8 1 ∷ copy (place 5 []) ∷ [])))

  -- what runs after the match
  abbrev last : MBody
  last = seq (assign (place 0 []) (rv_opd (copy (place 10 [])))) return

  -- what runs after the call
  abbrev rest : MBody
  rest =
      seq (switch (copy (place 6 (variant 0 ∷ field 0 ∷ []))) (arm (0 ∷ []) accepts (arm (1 ∷ []) refuses
      no_default))) last

  abbrev pub lent : Callee → Fn
  lent f = record {
    lifetimes = 2;
    outlives = [];
    ty_params = [];
    givens = 0;
    params = 3;
    locals = local (made_ty (told c.telling)) value_local ∷ local board_ref value_local
        ∷ local (list_ref (named 1)) value_local ∷ local (layout (shape c.asked)) value_local
        ∷ local A'.mir value_local ∷ local F'.mir value_local ∷ local (made_ty accepted) value_local
        ∷ local B'.mir value_local ∷ local (entry_ref erased) value_local
        ∷ local (list_ref erased) value_local ∷ local (made_ty (told c.telling)) value_local
        ∷ local B'.mir value_local ∷ more c.telling;
    body = seq (assign (place 7 []) (rv_opd (copy (place 1 (deref B'.mir ∷ [])))))
        (seq (assign (place 8 []) (addr_of (place 2 (field 0 ∷ deref (ty_int w32) ∷ []))))
        (seq (assign (place 9 []) (aggregate (copy (place 8 []) ∷ copy (place 2 (field 1 ∷ [])) ∷ [])))
        (seq (call f (copy (place 7 []) ∷ copy (place 9 []) ∷ copy (place 3 []) ∷ []) (place 6 []))
        rest)));
  }

  -- ---- the walk, at a reference x to the board, y to the list, and n asked; each lifetime with its token

  module _ {M : Type 1} {𝓤 : Ura M} (𝓛 : Logic 𝓤) (κ κ' : Lft) (q q' : Share)
      (x : MutBor Board) (y : MutBor (List ℕ)) (n : c.asked.D) (n-is : Is Q n (ask_val n ∷ [])) where
    -- the machine values of the two references
    open 𝓛 use {H}

    abbrev p : Val
    p = vptr x.ref_ptr.0 x.ref_ptr.1

    abbrev s : Val
    s = slice_val y.ref_ptr (length y.now)

    abbrev args : MutBor Board × (MutBor (List ℕ) × (c.asked.D × Unit {0}))
    args = (x, (y, (n, tt)))

    abbrev vals : List Val × (List Val × (List Val × Unit {0}))
    vals = (p ∷ [], (s ∷ [], (ask_val n ∷ [], tt)))

    -- what is to be shown of the machine value that is returned
    abbrev Post : Val → SProp 𝓤
    Post =
        (walk_of 𝓛 lent_ended stayed (lent_clauses 𝓤)).post
        (((κ, (κ', tt)), (q, (q', tt)), tt, args, vals), tt)

    -- what the call by value is called with
    abbrev to_value : (Value 𝓛).Ghost
    to_value = (
      (
        (κ', tt),
        (q', tt),
        tt,
        (x.now, (y, (n, tt))),
        (board_val x.now ∷ [], (s ∷ [], (ask_val n ∷ [], tt))),
      ),
      tt,
    )

    -- what the call by value has promised, once it gave r
    abbrev Promised : Made accepted → List ℕ → Type 0
    Promised r zs = c.Promise x.now y.now n (answer_of r) (board_left x.now r) zs

    -- what is to be promised of what is given
    abbrev Kept : Given → Board → List ℕ → Type 0
    Kept r d zs = c.Promise x.now y.now n (given_answer r) d zs

    kept : (a : Accepted) (zs : List ℕ) → Promised (Ok a) zs → Kept (Ok (told_of c.telling a)) a.board zs
    kept a zs p = c.tells x.now y.now n a zs p

    -- the list's token; the list lent; its last entries
    abbrev token : Item 𝓤
    token = ‵ (flft κ' q') ⊛ ‵ ftrue

    abbrev list : Item 𝓤
    list = ‵ ((MutSlice (named 1) κ' u32).own_val y (s ∷ []))

    -- what stays of the list's borrow
    abbrev rest_of_list : Item 𝓤
    rest_of_list = ‵ (fbor κ' (Body (Arr (Holey (mem u32)) (length y.now)) y.ref_ptr.0 y.ref_ptr.1 y.ghost_name))

    abbrev spent : List ℕ → Item 𝓤
    spent zs = token ⊛ (‵ (finally u32 y.ghost_name zs) ⊛ rest_of_list)

    -- what there is on entry, taken apart
    entry :
        ent 𝓤 (on_entry 𝓛 lent_ended.signature (κ, (κ', tt)) (q, (q', tt)) args vals)
        (⋆ 𝓛 (borrowed 𝓤 κ q x x.now (token ∷ list ∷ [])))
    entry =
        qed 𝓛
        ((‵ (flft κ q) ⊛ token)
        ∷ ‵ (owns (MutRef (named 0) κ B.the_row ∷ MutSlice (named 1) κ' u32 ∷ Q ∷ []) args vals) ∷ []) ∵
        split ! $ move ! (2 ∷ []) $ fsplit ! $ fsplit3 ! $ move ! (3 ∷ []) $ fsplit ! $
        -- [the list; the request; the pointer is p; the borrow's two parts; the two tokens]
        keep ! (3 ∷ 4 ∷ 5 ∷ 6 ∷ 0 ∷ []) $ done !

    -- what the call asks for: the list with its token; the board and the request are plain values
    goes : IsBoard x.now → ent 𝓤 (⋆ 𝓛 (token ∷ list ∷ [])) ((Value 𝓛).pre to_value)
    goes g =
        qed 𝓛 (token ∷ list ∷ []) ∵
        nothing ! $ has ! c.asked c.laws c.plains n n-is $ fjoin ! $
        move ! (2 ∷ 0 ∷ []) $ fjoin ! $
        has ! B.the_type B'.the_laws B'.the_plain x.now g $ fjoin ! $
        move ! (1 ∷ 0 ∷ []) $ join ! $ frame ! $ done !

    -- what it gives: some r and last entries zs, as promised
    abbrev found : Val → Made accepted → List ℕ → Item 𝓤
    found w r zs =
        given (length zs ≡ length y.now) (given (Promised r zs × IsMade accepted r w) (spent zs))

    came : (w : Val)
        → ent 𝓤 ((Value 𝓛).post to_value w) (mean 𝓛 (later (some (λ (r : Made accepted). some (found w r)))))
    came w =
        qed 𝓛
        (later (some (λ (r : Made accepted). (token ⊛ ‵ ((made_row accepted).own_val r (w ∷ [])))
        ⊛ raw (ensured 𝓛 value_ended (value_clauses 𝓤) (κ', tt) (x.now, (y, (n, tt))) tt r))) ∷ []) ∵
        updating ! $ await ! tt $ pick ! (λ r. split ! $ split ! $
        -- [the token; what r owns; what the contract ensures]
        move ! (2 ∷ []) $
        use1 𝓛 (some (λ (zs : Unit {0} × (List ℕ × (Last (Q.exit yes) n × Unit {0}))).
        ‵ (lasts value_ended (κ', tt) (x.now, (y, (n, tt))) zs)
        ⊛ raw (fact 𝓤 (Promised r zs.1.0)))) (id⊢ 𝓤 _) $
        pick ! (λ zs. split ! $ move ! (1 ∷ []) $
        heard ! (Promised r zs.1.0) (λ e.
        -- [what is last of board, list and request; the token; what r owns]
        fsplit ! $ move ! (1 ∷ []) $ fsplit ! $ fsplit ! $ fsplit ! $ move ! (1 ∷ []) $ feq_l ! (λ long.
        -- [the list's last entries; what stays of its borrow; the request's; the board's; the token; what r
        -- owns]
        move ! (5 ∷ []) $ peeks ! (made_row accepted) (Is (made_row accepted)) (shows 𝓛 (made_row accepted))
        r (w ∷ []) (λ is.
        at_once ! $ show ! (λ (o : Made accepted). mean 𝓛 (some (found w o))) r $
        show ! (λ (us : List ℕ). mean 𝓛 (found w r us)) zs.1.0 $
        check ! long $ check ! (e, is) $
        keep ! (5 ∷ 1 ∷ 2 ∷ []) $ done !)))))

    -- how the walk ends: with r given and the board d behind the closed borrow
    exits : (r : Given) (d : Board) (zs : List ℕ) → Kept r d zs → length zs ≡ length y.now
        → IsMade (told c.telling) r (made_val (told c.telling) r)
        → ent 𝓤 (⋆ 𝓛 (borrowed 𝓤 κ q x d (spent zs ∷ []))) (Post (made_val (told c.telling) r))
    exits r d zs promised long is =
        qed 𝓛 (borrowed 𝓤 κ q x d (spent zs ∷ [])) ∵
        suffices ! _
        (ends_at 𝓛 lent_ended stayed (lent_clauses 𝓤)
        (((κ, (κ', tt)), (q, (q', tt)), tt, args, vals), tt)
        (made_val (told c.telling) r) r (d, (zs, (c.last n, tt))) (tt, (long, (tt, tt)))) $
        says ! promised $
        -- the tokens
        move ! (3 ∷ []) $ split ! $ move ! (4 ∷ 0 ∷ []) $ join ! $ frame ! $ split ! $ fjoin ! $
        -- [the list's last entries; the borrow's two parts]: what is had of request, list and board
        nothing ! $ has ! c.asked c.laws c.plains n n-is $ fjoin ! $
        move ! (1 ∷ 0 ∷ []) $ fjoin ! $ move ! (1 ∷ 2 ∷ []) $
        feq_i ! (List Val) (p ∷ []) (p ∷ []) refl $ fjoin3 ! $ fjoin ! $
        -- and of what is given
        has_made ! (told c.telling) r is $
        move ! (1 ∷ 0 ∷ []) $ done !

    module _ (C : Calls 𝓤 H) (Λ : Loops 𝓤 H) where
      module _ (l₀ l₁ l₂ l₃ l₄ l₅ l₆ l₇ l₈ l₉ l₁₀ l₁₁ l₁₂ : ℕ) where
        -- where the locals after the result lie, and the result
        abbrev others : Env 𝓤 H
        others =
            (board_ref, l₁) ∷ (list_ref (named 1), l₂) ∷ (layout (shape c.asked), l₃) ∷ (A'.mir, l₄)
            ∷ (F'.mir, l₅) ∷ (made_ty accepted, l₆) ∷ (B'.mir, l₇) ∷ (entry_ref erased, l₈)
            ∷ (list_ref erased, l₉) ∷ (made_ty (told c.telling), l₁₀) ∷ (B'.mir, l₁₁) ∷ []

        abbrev places : Env 𝓤 H
        places = (made_ty (told c.telling), l₀) ∷ others

        abbrev env : Env 𝓤 H
        env = places ++ extra c.telling l₁₂

        -- the locals once the call gave r, with vs in those from _10; the board d lies behind the open borrow
        abbrev held : Board → Made accepted → List (Option Val) → List ℕ → List (Item 𝓤)
        held d r vs zs =
            spare c.telling l₁₂ ∷ opened 𝓤 κ q x d (spent zs ∷ stacked 𝓛 others
            (given_val p ∷ given_val s ∷ given_val (ask_val n) ∷ none ∷ none ∷ given_val (made_val accepted r)
            ∷ given_val (board_val x.now) ∷ given_val (vptr y.ref_ptr.0 y.ref_ptr.1) ∷ given_val s ∷ vs)
            (‵ (froom (made_ty (told c.telling)) l₀ 0) ∷ ‵ (fdies (made_ty (told c.telling)) l₀) ∷ []))

        abbrev then : After 𝓤 H
        then = any_q (after_seq 𝓤 H (Wp 𝓤 H C Λ env last (at_return 𝓤 H env Post)) (at_return 𝓤 H env Post))

        -- what is given is stored, the borrow is closed, and the locals are freed
        ends : (r : Made accepted) (g : Given) (d : Board) (zs : List ℕ)
            → IsMade (told c.telling) g (made_val (told c.telling) g) → IsBoard d
            → Kept g d zs → length zs ≡ length y.now
            → ent 𝓤 (⋆ 𝓛 (held d r (given_val (made_val (told c.telling) g) ∷ []) zs))
            (Wp 𝓤 H C Λ env last (at_return 𝓤 H env Post))
        ends r g d zs is d_is promised long =
            qed 𝓛 (held d r (given_val (made_val (told c.telling) g) ∷ []) zs) ∵
            exec ! C Λ env last (at_ret env Post) $
            sets ! (of_opd ! (at_local ! 9 refl)) 29 refl (made_typed (told c.telling) 𝓛 g is) $
            move ! (1 ∷ 2 ∷ 3 ∷ 4 ∷ 5 ∷ []) $ closes_board ! tt x d d_is $
            -- [the closed borrow's three parts; what is spare; the list, spent; _11; …]
            returns ! (look ! 27 refl) $ move ! (0 ∷ 1 ∷ 2 ∷ 4 ∷ []) $ sinks ! 4 $
            leaves_more 𝓛 c.telling l₁₂ places
            (given_val _ ∷ given_val _ ∷ given_val _ ∷ given_val _ ∷ none ∷ none ∷ given_val _ ∷ given_val _
            ∷ given_val _ ∷ given_val _ ∷ given_val _ ∷ []) refl $
            by ! (exits g d zs promised long is)

        goes_on : (w : Val) (r : Made accepted) (zs : List ℕ) → IsBoard x.now → IsMade accepted r w
            → Promised r zs → length zs ≡ length y.now
            → ent 𝓤 (⋆ 𝓛 (held x.now r [] zs)) (Wp 𝓤 H C Λ env rest (at_return 𝓤 H env Post))
        -- accepted: *b = accepted.board
        goes_on w (Ok a) zs g is promised long =
            let ok : IsIn accepted a = in_ok accepted a w is in
            qed 𝓛 (held x.now (Ok a) [] zs) ∵ exec ! C Λ env rest (at_ret env Post) $ first ! $
            switches_on ! (load ! (from ! (vrt ! refl (fld ! refl (stop !)))) (look_tag ! 17 (whole !))) $
            exec ! C Λ env accepts then $
            sets ! (of_opd ! (load ! (from ! (vrt ! refl (fld ! refl (stop !))))
            (look_in ! 17 (in_variant ! 0 0 refl refl (whole !))))) 21 refl (accepted_typed 𝓛 a ok) $
            sets ! (of_opd ! (at_field ! 21 0 refl refl refl)) 7 refl
            (board_typed 𝓛 a.board (is_board a ok)) $
            assigns ! (of_opd ! (at_local ! 7 refl)) (from ! (hop ! (look ! 27 refl) (stop !)))
            (store_raw ! 1 refl (board_typed 𝓛 a.board (is_board a ok))) $
            answers ! c.telling l₁₂ 8 20 a ok refl refl $ forget ! 7 refl $ forget ! 21 refl $
            by ! (ends (Ok a) (Ok (told_of c.telling a)) a.board zs
            (of_ok (told c.telling) (told_of c.telling a) (is_told c.telling a ok)) (is_board a ok)
            (kept a zs promised) long)
        -- refused: nothing is stored
        goes_on w (Err e) zs g is promised long =
            qed 𝓛 (held x.now (Err e) [] zs) ∵ exec ! C Λ env rest (at_ret env Post) $ first ! $
            switches_on ! (load ! (from ! (vrt ! refl (fld ! refl (stop !)))) (look_tag ! 17 (whole !))) $
            exec ! C Λ env refuses then $
            sets ! (of_opd ! (load ! (from ! (vrt ! refl (fld ! refl (stop !))))
            (look_in ! 17 (in_variant ! 1 0 refl refl (whole !))))) 19 refl
            (refusal_typed 𝓛 e (in_err accepted e w is)) $
            assigns_last ! (agg ! (and_then ! (lit ! tt) (and_then ! (at_local ! 19 refl) (no_more !))))
            (from ! (stop !)) (init ! 9 refl (made_typed (told c.telling) 𝓛 (Err e)
            (of_err (told c.telling) e (in_err accepted e w is)))) $ forget ! 19 refl $
            by ! (ends (Err e) (Err e) x.now zs (of_err (told c.telling) e (in_err accepted e w is)) g
            promised long)

      module _ (f : Callee) (fm : FmC 𝓤 H 𝓛.laws C) (known : Triple 𝓤 (C f) (Value 𝓛)) where
        walk : Room u32 (length y.now)
            → ent 𝓤 (on_entry 𝓛 lent_ended.signature (κ, (κ', tt)) (q, (q', tt)) args vals)
            (WpFn 𝓤 H C Λ (lent f) (p ∷ s ∷ ask_val n ∷ []) Post)
        walk room =
            via 𝓤 (⋆ 𝓛 (borrowed 𝓤 κ q x x.now (token ∷ list ∷ []))) entry
            (qed 𝓛 (borrowed 𝓤 κ q x x.now (token ∷ list ∷ [])) ∵
            enter ! C Λ (lent f) (p ∷ s ∷ ask_val n ∷ []) _ $
            alloc1 ! (λ l₀. alloc1 ! (λ l₁. alloc1 ! (λ l₂. alloc1 ! (λ l₃. alloc1 ! (λ l₄. alloc1 ! (λ l₅.
            alloc1 ! (λ l₆. alloc1 ! (λ l₇. alloc1 ! (λ l₈. alloc1 ! (λ l₉. alloc1 ! (λ l₁₀. alloc1 ! (λ l₁₁.
            alloc_more ! c.telling (λ l₁₂.
            -- the arguments: [what is spare; _11; …; .. _0; …; the borrow; the list's token; the list]
            params1 ! $ pass1 ! (init ! 21 refl (tt, tt)) $
            pass1 ! (init ! 19 refl (tt, (tt, (record { fits = room.0 }, tt)))) $
            pass1 ! (init ! 17 refl ((LL.lawful c.asked c.laws 𝓛).typed n _ n-is).0) $ pass0 ! $
            -- the board's borrow is opened: its five parts come first, then what is spare, _11 and on
            move ! (25 ∷ 26 ∷ 27 ∷ []) $ opens_board ! tt x (λ g.
            -- _7 = *b
            sets ! (of_opd ! (load ! (from ! (hop ! (look ! 26 refl) (stop !))) (look_raw ! 0 refl))) 14 refl
            (board_typed 𝓛 x.now g) $
            -- _8 = the place of the list's entries, _9 = that and the list's length
            sets ! (addr ! (from ! (fld ! refl (hop ! (look_in ! 24 (sub ! 0 refl (whole !))) (stop !)))))
            12 refl (tt, tt) $
            sets ! (agg ! (and_then ! (at_local ! 12 refl)
            (and_then ! (at_field ! 24 1 refl refl refl) (no_more !)))) 10 refl
            (tt, (tt, (record { fits = room.0 }, tt))) $
            -- the call, with the list and its token: _6 = f(_7, _9, _3)
            move ! (30 ∷ 31 ∷ []) $ use2 𝓛 (raw ((Value 𝓛).pre to_value)) (goes g) $
            calls_at ! fm (Value 𝓛) known to_value
            (and_then ! (at_local ! 15 refl)
            (and_then ! (at_local ! 11 refl) (and_then ! (at_local ! 23 refl) (no_more !))))
            (λ w. use1 𝓛 (later (some (λ (r : Made accepted). some (found w r)))) (came w) $ await ! tt $
            pick ! (λ r. pick ! (λ zs. learn ! (λ long. learn ! (λ k. move ! (6 ∷ 1 ∷ 2 ∷ 3 ∷ 4 ∷ 5 ∷ []) $
            -- [what is spare; the open borrow's five parts; the list, spent; _11; …]
            land ! (from ! (stop !)) (init ! 17 refl (made_typed accepted 𝓛 r k.1)) $
            rewrite ! 17 (λ (u : Val). ‵ (fat full_share (made_ty accepted) l₆ 0 u))
            (ap only (EL.tells (made_type accepted) (made_laws accepted) r _ k.1)) refl $
            by ! (goes_on l₀ l₁ l₂ l₃ l₄ l₅ l₆ l₇ l₈ l₉ l₁₀ l₁₁ l₁₂ w r zs g k.1 k.0 long)
            ))))))))))))))))))))

  -- ---- the theorem

  module _ {M : Type 1} {𝓤 : Ura M} (𝓛 : Logic 𝓤) where
    open 𝓛 use {H}

    walks :
        (f : Callee) (C : Calls 𝓤 H) (Λ : Loops 𝓤 H) → FmC 𝓤 H 𝓛.laws C → Triple 𝓤 (C f) (Value 𝓛)
        → Walks 𝓛 lent_ended stayed (WpFn 𝓤 H C Λ (lent f)) (lent_clauses 𝓤)
    walks f C Λ fm known =
        walked 𝓛 lent_ended stayed (lent_clauses 𝓤) (WpFn 𝓤 H C Λ (lent f))
        (λ κs. (mut_vals, (mut_slice_vals, ((λ n. ask_val n ∷ []), tt))))
        (λ κs. (
          mut_Tells (named 0) κs.0 B.the_row,
          (mut_slice_Tells (named 1) κs.1.0 u32, (LL.tells c.asked c.laws, tt)),
        ))
        (λ κs qs bounds a g are. via 𝓤 _ (fst∗ 𝓤 _ (emp 𝓤))
        (walk 𝓛 κs.0 κs.1.0 qs.0 qs.1.0 a.0 a.1.0 a.1.1.0 are.1.1.0
        C Λ f fm known are.1.0.0.1))

    pub layer :
        (f : Callee) (𝓣 : Tables 𝓤 H) → Triple 𝓤 (𝓣.C f) (Value 𝓛)
        → Meets 𝓛 lent_ended.signature (WpFn 𝓤 H 𝓣.C 𝓣.Λ (lent f))
        (closing 𝓛 lent_ended (lent_clauses 𝓤))
    layer f 𝓣 known =
        walk_Meets 𝓛 lent_ended stayed (
          Goes-ref 𝓛 2 0 tt (plain (λ _. B.the_row)),
          (
            Goes-gave_slice 𝓛 2 1 tt (plain (λ _. u32)),
            (Goes-none 𝓛 2 (λ _. Q) yes (λ κs. c.silent), tt),
          ),
        )
        (lent_clauses 𝓤) (WpFn 𝓤 H 𝓣.C 𝓣.Λ (lent f)) (WpFn-mono 𝓤 H 𝓛.laws 𝓣 (lent f))
        (walks f 𝓣.C 𝓣.Λ (fm_of 𝓤 H 𝓛.laws 𝓣) known)
