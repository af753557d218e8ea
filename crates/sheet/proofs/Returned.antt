-- What the code's two answers say.
use Rattle.std.specs.Prelude.{Result, Ok, Err, IsErrAnd, ◌≡◌}
use Rattle.laws.specs.Kit.{refl, ap, arith, List, Float}
use Rattle.definition.specs.Sheet.{Listed, filed, refusal, refused, call}
use Rattle.refusals.specs.declared.named.Refusal.{Refusal}
use Rattle.refusals.specs.Numbers.{number, number_or_0, number_positive}
use Rattle.refusals.specs.Refusals.{number_of}
use Rattle.sheet.specs.declared.answers.Sheet.{Sheet}
use Rattle.sheet.specs.Promise.{Returns, Fills}
use Rattle.sheet.specs.Refusals.{Clear, call_filed, call_refused}

-- a refusal is handed on as it is
pub handed_on : {A : Type 0} (r : Result A Refusal) (k : Refusal) → IsErrAnd r (λ e. e ≡ k) → number_or_0 r ≡ number k
handed_on (Ok x) k h = absurd h
handed_on (Err e) k h = ap number h

pub refused_returns : (l : Listed) (r : Result Sheet Refusal) (k : Refusal) → IsErrAnd r (λ e. e ≡ k) → number k ≡ number_of (refused l) → Returns (call l) r l.out
refused_returns l (Ok s) k h e = absurd h
refused_returns l (Err d) k h e =
    rw (call_refused l (number k) e (λ q. let p = number_positive k in omega arith))
    (record { answer = ap (λ z. refusal (number z)) h; out = refl })

pub filled_returns : (l : Listed) (r : Sheet) (now : List Float) → Clear l → Fills l r now → Returns (call l) (Ok r) now
filled_returns l r now h f = rw (call_filed l h) (record { answer = ap filed f.sheet; out = f.out })
