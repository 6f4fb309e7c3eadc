use Rattle.records.proofs.Heads.{ninth, differ}
use Rattle.records.proofs.agrees.Goals as goal

pub returns-then-there-from_le_bytes : goal.returns-then-there-from_le_bytes
returns-then-there-from_le_bytes c = let a = c.args in
    ninth a.bytes.now a.at a.kind a.klen a.vlen c.header-head.ensures c.requires.at_in_bounds c.type_inv.bytes c.from_le_bytes-there.ensures c.from_le_bytes.ensures c.if-there-from_le_bytes.true

pub returns-else-there-from_le_bytes : goal.returns-else-there-from_le_bytes
returns-else-there-from_le_bytes c = let a = c.args in
    differ a.bytes.now a.at a.kind a.klen a.vlen c.header-head.ensures c.requires.at_in_bounds c.type_inv.bytes c.from_le_bytes-there.ensures c.from_le_bytes.ensures c.if-there-from_le_bytes.false
