use Rattle.std.proofs.Common.{refl}
use Rattle.area_listing.proofs.Writing.{base_keeps, listing_read, version_read}
use Rattle.area_listing.proofs.listing_laws.Goals as goal

pub returns-clause-written : goal.returns-clause-written
returns-clause-written c = λ m base. listing_read _ m base refl

pub returns-clause-read : goal.returns-clause-read
returns-clause-read c = version_read

pub returns-clause-kept : goal.returns-clause-kept
returns-clause-kept c = base_keeps
