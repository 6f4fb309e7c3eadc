-- What an exported call's reply says of the definition's outcome.
use mathlib.Core.Path.{◌≡◌, ap, ◌∙◌}
use Prim.Native.Nat.{ℕ}
use Rattle.definition.specs.Tools.{Bytes}
use Rattle.definition.specs.Public.{Outcome, outcome}
use Rattle.definition.specs.declared.State.{State}
use Rattle.exports.specs.declared.CReply.{CReply}
use Rattle.exports.specs.declared.Word.{Word}
use Rattle.exports.specs.Forms.{built, Hears}

pub hears : {A : Type 0} {out : A → Word} {w : Word} {r : CReply} {b shown : Bytes} {a : A} {st : State} {n : ℕ} {o : Outcome A} → r ≡ built w st n → w ≡ out a
    → outcome a st n b shown ≡ o → Hears out r b shown o
hears {A} {out} {st = st} {n = n} er ew e =
    record {
      reply = er ∙ ap (λ (w : Word). built w st n) ew ∙ ap (λ (o : Outcome A). built (out o.answer) o.state o.calls) e;
      bytes = ap (λ (o : Outcome A). o.region) e;
      handed = ap (λ (o : Outcome A). o.output) e;
    }
