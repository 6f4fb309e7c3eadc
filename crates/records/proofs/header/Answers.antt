use Rattle.std.proofs.Common.{rules}
use Rattle.definition.specs.Region
use Rattle.definition.specs.Region.{le16, le32}
use Rattle.records.proofs.header.Goals as goal

pub overflow_cast-size : goal.overflow_cast-size
unfolding Region.size
overflow_cast-size c = search rules

pub returns : goal.returns
unfolding Region.header le32 le16
returns c = search rules
