use Rattle.std.proofs.Common.{rules, refl}
use Rattle.items.proofs.Laws.{store_done, store_full, store_failed_on, store_failed_full, store_failed}
use Rattle.items.proofs.store.Goals as goal

pub returns-in_default-store : goal.returns-in_default-store
returns-in_default-store c = store_full _ c.fate-verdict.ensures c.stepped-next.ensures c.store.ensures c.in_default-store.is c.in_default.is

pub returns-in_default : goal.returns-in_default
returns-in_default c = store_done _ c.fate-verdict.ensures c.stepped-next.ensures c.store.ensures c.in-Some.is refl c.in_default.is

pub returns-in_default-store-2 : goal.returns-in_default-store-2
returns-in_default-store-2 c = store_failed_full _ c.fate-verdict.ensures c.stepped-next.ensures c.store-then-lands.ensures c.in_default-store-2.is c.in-Fail.is c.if-lands.true

pub returns-then-lands : goal.returns-then-lands
returns-then-lands c = store_failed_on _ c.fate-verdict.ensures c.stepped-next.ensures c.store-then-lands.ensures c.in-Some-store.is refl c.in-Fail.is c.if-lands.true

pub returns : goal.returns
returns c = store_failed _ c.fate-verdict.ensures c.stepped-next.ensures c.in-Fail.is (search rules) c.requires.region_value
