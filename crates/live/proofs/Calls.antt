-- What admit, act and withdraw ask, answer and promise, for the walk that they share.
use mathlib.Core.Path.{refl, subst}
use Prim.Native.Nat.{ℕ}
use Rattle.requests.specs.contracts.RequestAdmit as RequestAdmit
use Rattle.requests.proofs.RequestAdmit.TheLaws as RequestAdmit'
use Rattle.requests.specs.contracts.RequestAct as RequestAct
use Rattle.requests.proofs.RequestAct.TheLaws as RequestAct'
use Rattle.requests.specs.contracts.RequestWithdraw as RequestWithdraw
use Rattle.requests.proofs.RequestWithdraw.TheLaws as RequestWithdraw'
use Rattle.act.specs.ActsNow.{ActsNow}
use Rattle.admit.specs.Admits.{Admits}
use Rattle.withdraw.specs.Withdraws.{Withdraws}
use Rattle.board.specs.Answers.{done_answer}
use Rattle.lending.proofs.Layer.{Call}
use Rattle.lending.proofs.Telling.{no_serial, its_serial}

abbrev pub admitting : Call
admitting = record {
  asked = RequestAdmit.the_type;
  laws = RequestAdmit'.the_laws;
  plains = RequestAdmit'.the_plain;
  last = λ _. tt;
  silent = λ _ _. refl;
  telling = its_serial;
  Promise = Admits;
  tells = λ b l n a l' promised. promised;
}

abbrev pub acting : Call
acting = record {
  asked = RequestAct.the_type;
  laws = RequestAct'.the_laws;
  plains = RequestAct'.the_plain;
  last = λ _. tt;
  silent = λ _ _. refl;
  telling = no_serial;
  Promise = ActsNow;
  tells = λ b l n a l' promised.
      subst (λ (k : ℕ). ActsNow b l n (done_answer k) a.board l') (promised.accepted refl).1 promised;
}

abbrev pub withdrawing : Call
withdrawing = record {
  asked = RequestWithdraw.the_type;
  laws = RequestWithdraw'.the_laws;
  plains = RequestWithdraw'.the_plain;
  last = λ _. tt;
  silent = λ _ _. refl;
  telling = no_serial;
  Promise = Withdraws;
  tells = λ b l n a l' promised.
      subst (λ (k : ℕ). Withdraws b l n (done_answer k) a.board l') (promised.accepted refl).1 promised;
}
