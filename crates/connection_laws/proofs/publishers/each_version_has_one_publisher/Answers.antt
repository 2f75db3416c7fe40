use Rattle.connection_laws.proofs.PublisherPlaces.{each_is_ones, none_is_twos, each_ascends}
use Rattle.connection_laws.proofs.publishers.each_version_has_one_publisher.Goals as goal

pub returns-clause-own : goal.returns-clause-own
returns-clause-own c = each_is_ones

pub returns-clause-one : goal.returns-clause-one
returns-clause-one c = none_is_twos

pub returns-clause-once : goal.returns-clause-once
returns-clause-once c = each_ascends
