-- A kind's number is its place among its fellows.
use Rattle.std.proofs.Common.{◌≡◌, refl}
use Rattle.definition.specs.Numbers.{region_kind, capacity_kind, driver_kind}
use Rattle.definition.specs.declared.RegionKind.{RegionKind}
use Rattle.definition.specs.declared.RegionKind.TheVariants as R
use Rattle.definition.specs.declared.CapacityKind.{CapacityKind}
use Rattle.definition.specs.declared.CapacityKind.TheVariants as C
use Rattle.definition.specs.declared.DriverKind.{DriverKind}
use Rattle.definition.specs.declared.DriverKind.TheVariants as D
use Rattle.definition.specs.contracts.RegionKind as region
use Rattle.definition.specs.contracts.CapacityKind as capacity
use Rattle.definition.specs.contracts.DriverKind as driver
use denote.Enum.Declared.{tag_of}

pub region_place : (k : RegionKind) → tag_of region.the_type k ≡ region_kind k
unfolding region_kind
region_place R.TooHigh = refl
region_place R.StartNotPageAligned = refl
region_place R.EndNotPageAligned = refl
region_place R.TooSmall = refl

pub capacity_place : (k : CapacityKind) → tag_of capacity.the_type k ≡ capacity_kind k
unfolding capacity_kind
capacity_place C.Key = refl
capacity_place C.Value = refl
capacity_place C.BatchOperations = refl

pub driver_place : (k : DriverKind) → tag_of driver.the_type k ≡ driver_kind k
unfolding driver_kind
driver_place D.NotAligned = refl
driver_place D.OutOfBounds = refl
driver_place D.Other = refl

-- all three
pub ruleset places = (region_place, capacity_place, driver_place)
