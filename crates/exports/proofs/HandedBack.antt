-- What a host is handed it hands back: the six numbers of a reply, as a state, are the state that the definition's
-- call left. So a run over the exported calls, each given the newest reply's numbers, is a run over the definition's,
-- and the promise is the host's too.
use mathlib.Core.Path.{◌≡◌, refl, ap, ap₂, ◌∙◌}
use mathlib.Core.Bool.{Bool, true, false, not}
use Prim.Native.Nat.{ℕ}
use lib.Dec.{eqb}
use Rattle.definition.specs.Tools.{Bytes, pick}
use Rattle.definition.specs.Public.{Outcome}
use Rattle.definition.specs.declared.State.{State}
use Rattle.definition.specs.declared.Health.{Health}
use Rattle.definition.specs.declared.Health.TheVariants.{Clean, Debris, Pending}
use Rattle.definition.specs.contracts.Health as health
use denote.Enum.Declared.{tag_of}
use Rattle.exports.specs.declared.CState.{CState}
use Rattle.exports.specs.declared.CReply.{CReply}
use Rattle.exports.specs.declared.Word.{Word}
use Rattle.exports.specs.Forms.{health_number, health_of, flag_number, state_in, built, Hears}

-- a health's number is its place among its fellows
pub health_place : (h : Health) → tag_of health.the_type h ≡ health_number h
unfolding health_number
health_place Clean = refl
health_place Debris = refl
health_place Pending = refl

-- the state in a reply
abbrev pub kept : CReply → CState
kept r = record { health = r.health; at = r.at; cut = r.cut; used = r.used; free = r.free; takes = r.takes }

health_back : (h : Health) → health_of (health_number h) ≡ h
unfolding health_of health_number pick
health_back Clean = refl
health_back Debris = refl
health_back Pending = refl

cut_back : (b : Bool) → not (eqb (flag_number b) 0) ≡ b
unfolding flag_number
cut_back true = refl
cut_back false = refl

-- ---- EVERY EXPORTED CALL that is given a state: what its contract says of the reply, whatever was answered, makes
-- the numbers in it the outcome's state

back : (w : Word) (st : State) (n : ℕ) → state_in (kept (built w st n)) ≡ st
back w st n =
    ap₂ (λ (h : Health) (c : Bool). record { health = h; at = st.at; cut = c; space = st.space })
    (health_back st.health) (cut_back st.cut)

pub handed_back : {A : Type 0} {out : A → Word} {r : CReply} {region output : Bytes} {o : Outcome A} → Hears out r region output o → state_in (kept r) ≡ o.state
handed_back {out = out} {o = o} a = ap (λ (x : CReply). state_in (kept x)) a.reply ∙ back (out o.answer) o.state o.calls
