-- What the batch's tests say of what is lent, and leave of its operations.
use Rattle.std.specs.Prelude.{◌≡◌, refl, List, ◌∷◌, ℕ, suc, ◌+◌, ◌≤◌, length, Option, None, Some, Result, Ok, Err}
use Rattle.definition.specs.Tools.{Bytes}
use Rattle.definition.specs.Codec.{Op, batch_limit, journal_key, encode}
use Rattle.definition.specs.Region.{item}
use Rattle.definition.specs.Program.{Prog, ◌▷◌, flat, store}
use Rattle.definition.specs.Recovery.{land}
use Rattle.definition.specs.Calls.{ops_fault, batch_fault, journal, apply}
use Rattle.definition.specs.declared.Fault.{Fault}
use Rattle.definition.specs.declared.Fault.TheVariants.{BadList}
use Rattle.oplist.specs.Places.{Listed, those}
-- for the crates above, whose sources say what stands at a place
pub use Rattle.oplist.specs.Places.{Given, Op-at, None-at}

-- why what is lent is not done: it is no list, or its operations do not pass
abbrev pub list_fault : Option (List Op) → Option Fault
list_fault None = Some BadList
list_fault (Some ops) = batch_fault ops

-- r is what the tests say of it: how many operations they are, or why they are refused
abbrev pub Passes : Option (List Op) → Result ℕ Fault → Type 0
Passes o (Ok n) = (list_fault o ≡ None) × (n ≡ length (those o))
Passes o (Err f) = list_fault o ≡ Some f

-- a walk is before the operation of this index: what is left passed the tests, and the indices reach for it
pub record Tested (o : Option (List Op)) (index : ℕ) : Type 0 where
  pub walk : Listed o
  pub fine : ops_fault (those o) ≡ None
  pub few : index + length (those o) ≤ batch_limit

-- ---- what a pass does with an operation

-- stores its entry
abbrev pub entered : ℕ → Op → Prog Bytes (Unit {0})
entered i op = store flat (item (journal_key i) (encode op))

-- the definition's two programs go from operation to operation
pub journal_turn : (i : ℕ) (op : Op) (ops : List Op) → journal flat i (op ∷ ops) ≡ (entered i op ▷ λ x. journal flat (suc i) ops)
unfolding journal
journal_turn i op ops = refl

pub apply_turn : (i : ℕ) (op : Op) (ops : List Op) → apply flat i (op ∷ ops) ≡ (land flat i op ▷ λ x. apply flat (suc i) ops)
unfolding apply
apply_turn i op ops = refl
