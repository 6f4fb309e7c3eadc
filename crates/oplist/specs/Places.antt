-- Places in an operation list: what stands there, and the operations that are left from there on. Document 01's list
-- is reached through them, so that a caller needs no byte of a record.
use Rattle.std.specs.Prelude.{◌≡◌, List, [], ◌∷◌, ℕ, ◌+◌, ◌≤◌, ◌<◌, length, drop, option_map, Option, Some, None, MatchOption, IfSome}
use Rattle.definition.specs.Tools.{Bytes}
use Rattle.definition.specs.Codec.{Op}
use Rattle.definition.specs.Region.{head_size}
use Rattle.definition.specs.OperationList.{op_at, op_size}
use Rattle.codec.specs.declared.OpKind.TheVariants as K
use Rattle.codec.specs.Forms.{op_as}
use Rattle.region.specs.Places.{key_at, value_at}
use Rattle.oplist.specs.declared.ListOp.{ListOp}
use Rattle.oplist.specs.declared.OpWalk.{OpWalk}

-- an operation stands at `at`, its key and its value where a record has them, and `next` is the place behind it
pub record Met (s : Bytes) (at : ℕ) (o : ListOp) : Type 0 where
  pub op : op_at (drop at s) ≡ Some (op_as o.kind o.key.now o.value.now)
  pub key_is : o.key.now ≡ key_at s at (length o.key.now)
  pub value_is : o.value.now ≡ value_at s at (length o.key.now) (length o.value.now)
  pub next_is : o.next ≡ at + op_size (drop at s)
  pub holds : at + head_size + length o.key.now + length o.value.now ≤ o.next
  pub inside : o.next ≤ length s
  pub bare : o.kind ≡ K.Delete → o.value.now ≡ []

-- what a visit of a place says
abbrev pub Visit : Bytes → ℕ → Option ListOp → Type 0
Visit s at r = MatchOption r (op_at (drop at s) ≡ None) (Met s at)

-- the shape of a list, by its operations: how many they are, or that it is none
abbrev pub shape_of : Option (List Op) → Option ℕ
shape_of None = None
shape_of (Some ops) = Some (length ops)

-- ---- where a batch's operations are lent: what is left at a place

-- the operations of what is a list of them
abbrev pub those : Option (List Op) → List Op
those None = []
those (Some ops) = ops

-- it is a list of operations
abbrev pub Listed : Option (List Op) → Type 0
Listed o = o ≡ Some (those o)

-- the first of those that are left before it, and what is left behind it
pub record Given (before after : Option (List Op)) (o : ListOp) : Type 0 where
  pub first : before ≡ option_map (λ ops. op_as o.kind o.key.now o.value.now ∷ ops) after
  pub bare : o.kind ≡ K.Delete → o.value.now ≡ []

-- an operation at a place, further on than it and within the source
pub record Op-at (left : ℕ → Option (List Op)) (size at : ℕ) (o : ListOp) : Type 0 where
  pub given : Given (left at) (left o.next) o
  pub on : at < o.next
  pub inside : o.next ≤ size

-- none: the source ends there, or what is left is no list of operations
pub record None-at (left : ℕ → Option (List Op)) (size at : ℕ) : Type 0 where
  pub over : size ≤ at → left at ≡ Some []
  pub broken : at < size → left at ≡ None

-- what a visit of a place says
abbrev pub Found : (ℕ → Option (List Op)) → ℕ → ℕ → Option ListOp → Type 0
Found left size at r = MatchOption r (None-at left size at) (Op-at left size at)

-- what the walk's `next` answers at i and leaves of it, j
pub record Steps {S : Type 0} (left : ℕ → Option (List Op)) (size : ℕ) (i : OpWalk S) (r : Option ListOp) (j : OpWalk S) : Type 0 where
  pub source : j.source.now ≡ i.source.now
  pub visit : Found left size i.at r
  pub on : IfSome r (λ o. j.at ≡ o.next)
