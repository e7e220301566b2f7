use Rattle.std.proofs.Common.{◌≡◌, ◌≤◌, ◌+◌, ℕ, List, ◌++◌, length, take, rules, sym, ap, subst, ◌∙◌, length-take-le}
use Rattle.std.proofs.Math.Seq.{take-append-add}
use Rattle.std.proofs.lemmas.List.{take-append-le}
use Rattle.std.proofs.KnownBytes.{Consumes-trans}
use Rattle.std.specs.Io.KnownBytes.{Consumes}
use Rattle.streams.proofs.read_full.Goals as goal

-- the first at + n bytes, where the part from at on begins with n bytes that were read
take_read : (front part rest : List ℕ) (at n : ℕ) → length front ≡ at → n ≤ length part
    → take (at + n) (front ++ (part ++ rest)) ≡ front ++ take n part
take_read front part rest at n long fits =
    ap (λ k. take (k + n) (front ++ (part ++ rest))) (sym long)
    ∙ take-append-add front (part ++ rest) n
    ∙ ap (λ l. front ++ l) (take-append-le n part rest fits)

pub loop-done-preserved : goal.loop-done-preserved
loop-done-preserved g c =
    let before = c.loop-done.invariant in
    let bytes = c.in_ok-n.ensures.bytes.0 in
    let front = length-take-le c.loop-done.done c.loop-done.room before.within in
    record {
      same_length = search rules;
      within = search rules;
      read =
          subst (Consumes _ _) (sym (take_read _ _ _ _ c.in_ok-n.n front c.in_ok-n.ensures.bound.0))
          (Consumes-trans _ _ _ _ _ before.read bytes);
    }
