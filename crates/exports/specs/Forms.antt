-- What crosses to a host: states and replies as plain numbers, and what an exported call's reply says of the
-- definition's outcome.
use Rattle.std.specs.Prelude.{◌≡◌, Bool, true, false, not, ℕ, eqb, None, Some, Ok, Err}
use Rattle.definition.specs.Tools.{Bytes, pick}
use Rattle.definition.specs.Numbers.{number}
use Rattle.definition.specs.Public.{Outcome}
use Rattle.definition.specs.declared.Space.{Space}
use Rattle.definition.specs.declared.State.{State}
use Rattle.definition.specs.declared.Fault.{Fault}
use Rattle.definition.specs.declared.Health.{Health}
use Rattle.definition.specs.declared.Health.TheVariants.{Clean, Debris, Pending}
use Rattle.definition.specs.declared.ScanEnd.TheVariants.{Finished, Stopped, NoRoom}
use Rattle.definition.specs.Answers.{Answer, GetAnswer, TruthAnswer, ScanAnswer}
use Rattle.definition.specs.declared.Scanned.{Scanned}
use Rattle.numbers.specs.Forms.{three_of, values_three}
use Rattle.exports.specs.declared.CState.{CState}
use Rattle.exports.specs.declared.CReply.{CReply}
use Rattle.exports.specs.declared.CSpace.{CSpace}
use Rattle.exports.specs.declared.Word.{Word}

unfoldable pub health_number : Health → ℕ
health_number Clean = 0
health_number Debris = 1
health_number Pending = 2

unfoldable pub health_of : ℕ → Health
health_of n = pick (eqb n 0) Clean (pick (eqb n 1) Debris Pending)

unfoldable pub flag_number : Bool → ℕ
flag_number true = 1
flag_number false = 0

abbrev pub state_in : CState → State
state_in c =
    record {
      health = health_of c.health;
      at = c.at;
      cut = not (eqb c.cut 0);
      space = record { used = c.used; free = c.free; takes = c.takes };
    }

abbrev pub space_out : Space → CSpace
space_out n = record { used = n.used; free = n.free; takes = n.takes }

-- ---- answers

abbrev pub says : ℕ → ℕ → ℕ → Word
says answer count length =
    record { answer = answer; number = 0; values = three_of 0 0 0; count = count; length = length }

abbrev pub refuses : Fault → ℕ → ℕ → Word
refuses f count length =
    record { answer = 0; number = number f; values = values_three f; count = count; length = length }

abbrev pub answer_out : Answer → Word
answer_out (Ok x) = says 1 0 0
answer_out (Err f) = refuses f 0 0

abbrev pub get_out : GetAnswer → Word
get_out (Ok (Some len)) = says 1 0 len
get_out (Ok None) = says 2 0 0
get_out (Err f) = refuses f 0 0

abbrev pub truth_out : TruthAnswer → Word
truth_out (Ok true) = says 1 0 0
truth_out (Ok false) = says 2 0 0
truth_out (Err f) = refuses f 0 0

abbrev pub end_out : ScanAnswer → ℕ → ℕ → Word
end_out (Ok Finished) count length = says 1 count length
end_out (Ok Stopped) count length = says 2 count length
end_out (Ok NoRoom) count length = says 3 count length
end_out (Err f) count length = refuses f count length

abbrev pub scan_out : Scanned → Word
scan_out a = end_out a.end a.count a.length

-- ---- replies

abbrev pub built : Word → State → ℕ → CReply
built w st calls =
    record {
      answer = w.answer;
      number = w.number;
      v0 = w.values.0;
      v1 = w.values.1;
      v2 = w.values.2;
      count = w.count;
      length = w.length;
      health = health_number st.health;
      at = st.at;
      cut = flag_number st.cut;
      used = st.space.used;
      free = st.space.free;
      takes = st.space.takes;
      calls = calls;
    }

-- the reply, the region and the output after a call are those of the definition's outcome, whose answer a host hears so
pub record Hears {A : Type 0} (out : A → Word) (r : CReply) (region output : Bytes) (o : Outcome A) : Type 0 where
  pub reply : r ≡ built (out o.answer) o.state o.calls
  pub bytes : region ≡ o.region
  pub handed : output ≡ o.output
