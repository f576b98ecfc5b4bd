-- The theorem of each claim of specs/Claims.antt.
use Rattle.kernel.proofs.Ends.{run_ends}
use Rattle.numbers.specs.Values.{latm_get_value, groups_from}
use Rattle.numbers.specs.Claims.{ValueReadsBack, GroupsReadBack, ValueIsShortest, GroupsAreShortest}
use Rattle.numbers.specs.Claims.{GroupsAreFour}
use Rattle.numbers.proofs.Trip.{value_trip, groups_trip}
use Rattle.numbers.proofs.Shortest.{value_end, groups_end}
use Rattle.numbers.proofs.Groups.{groups_four}

pub value_reads_back : ValueReadsBack
value_reads_back v at h = value_trip at v h

pub groups_read_back : GroupsReadBack
groups_read_back v at h = groups_trip at v h

pub value_is_shortest : ValueIsShortest
value_is_shortest s at n v to m e = (rw e at (run_ends _ s latm_get_value at n (value_end at))).0

pub groups_are_shortest : GroupsAreShortest
groups_are_shortest s at n v to m e = rw e at (run_ends _ s (groups_from 4 0) at n (groups_end at))

pub groups_are_four : GroupsAreFour
groups_are_four = groups_four
