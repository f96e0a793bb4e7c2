-- What contracts see of the code's mismatches.
use Rattle.std.specs.Prelude.{Option, option_map}
use Rattle.syntax_tree.specs.Placed.{op_of}
use Rattle.message_types.specs.declared.mismatch.Spot as code_spot
use Rattle.message_types.specs.declared.mismatch.Spot.TheVariants as spot_is
use Rattle.message_types.specs.declared.mismatch.Mismatch as code_mismatch
use Rattle.message_types.specs.declared.mismatch.Mismatch.TheVariants as mismatch_is
use Rattle.message_types.specs.Mismatches.{Spot, test_of_if, test_of_exit, test_of_assert, assigned_to, got_into, put_to, argument, index_of, left_of, right_of, behind_minus, behind_not, result_of, Mismatch, sorts_differ, counts_differ, lacks_index, has_index}

abbrev pub spot_of : code_spot.Spot → Spot
spot_of spot_is.If = test_of_if
spot_of spot_is.ExitWhen = test_of_exit
spot_of spot_is.Assert = test_of_assert
spot_of (spot_is.AssignedTo target) = assigned_to target.now
spot_of (spot_is.GotInto target) = got_into target.now
spot_of (spot_is.PutTo device) = put_to device.now
spot_of (spot_is.Argument number routine) = argument number routine.now
spot_of (spot_is.IndexOf array) = index_of array.now
spot_of (spot_is.LeftOf op) = left_of (op_of op)
spot_of (spot_is.RightOf op) = right_of (op_of op)
spot_of spot_is.BehindMinus = behind_minus
spot_of spot_is.BehindNot = behind_not
spot_of (spot_is.ResultOf function) = result_of function.now

abbrev pub mismatch_of : code_mismatch.Mismatch → Mismatch
mismatch_of (mismatch_is.SortsDiffer spot wanted found) = sorts_differ (spot_of spot) wanted found
mismatch_of (mismatch_is.CountsDiffer routine wanted found) = counts_differ routine.now wanted found
mismatch_of (mismatch_is.LacksIndex array) = lacks_index array.now
mismatch_of (mismatch_is.HasIndex name) = has_index name.now

-- what does not agree, if something does not
abbrev pub seen : Option code_mismatch.Mismatch → Option Mismatch
seen found = option_map mismatch_of found
