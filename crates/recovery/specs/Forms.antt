-- What a function that does one operation of a batch asks: an item that a put stores may be stored.
use Rattle.std.specs.Prelude.{Bool, true, length}
use Rattle.definition.specs.Tools.{Bytes}
use Rattle.definition.specs.Region.{allowed}
use Rattle.codec.specs.declared.OpKind.{OpKind}
use Rattle.codec.specs.declared.OpKind.TheVariants as K

unfoldable pub op_fits : OpKind → Bytes → Bytes → Bool
op_fits K.Put k v = allowed (length k) (length v)
op_fits K.Delete k v = true
