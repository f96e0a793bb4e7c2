-- The image of the mine pump is its code.
use Rattle.std.proofs.Common.{refl}
use Rattle.code_spec.specs.Numbering.{numbered, visit, number_of}
use Rattle.code_spec.specs.Compiled.{IsCodeOf}
use Rattle.examples_law.specs.Mine.{mine, mine_image}

pub mine_is_code : IsCodeOf mine mine_image
unfolding numbered visit number_of
mine_is_code = record {
  between = 37;
  routine_code = (13, record { kind = refl; owner = refl; params = refl; locals = refl; gives = refl; tree = refl }, refl, record { inside = 1; enters = record { has = (refl, tt); end = refl }; behind = 11; body = (3, record { has = (refl, (refl, tt)); end = refl }, (11, (5, 10, record { has = (refl, (refl, tt)); end = refl }, refl, (8, record { has = (refl, (refl, tt)); end = refl }, (10, record { has = (refl, (refl, tt)); end = refl }, refl)), refl, refl), refl)); rest = record { has = (refl, (refl, tt)); end = refl } }, (24, record { kind = refl; owner = refl; params = refl; locals = refl; gives = refl; tree = refl }, refl, record { inside = 14; enters = record { has = (refl, tt); end = refl }; behind = 21; body = (21, (15, 20, record { has = (refl, tt); end = refl }, refl, (18, record { has = (refl, (refl, tt)); end = refl }, (20, record { has = (refl, (refl, tt)); end = refl }, refl)), refl, refl), refl); rest = (22, (22, record { has = (refl, tt); end = refl }, record { has = tt; end = refl }), record { has = (refl, (refl, tt)); end = refl }) }, (31, record { kind = refl; owner = refl; params = refl; locals = refl; gives = refl; tree = refl }, refl, record { inside = 25; enters = record { has = (refl, tt); end = refl }; behind = 29; body = (28, record { has = (refl, (refl, (refl, tt))); end = refl }, (29, record { has = (refl, tt); end = refl }, refl)); rest = record { has = (refl, (refl, tt)); end = refl } }, (37, record { kind = refl; owner = refl; params = refl; locals = refl; gives = refl; tree = refl }, refl, record { inside = 32; enters = record { has = (refl, tt); end = refl }; behind = 34; body = (34, record { has = (refl, (refl, tt)); end = refl }, refl); rest = (35, (35, record { has = (refl, tt); end = refl }, record { has = tt; end = refl }), record { has = (refl, (refl, tt)); end = refl }) }, refl))));
  process_code = (53, record { behind = 47; body = (40, record { has = (refl, (refl, (refl, tt))); end = refl }, (44, record { has = (refl, (refl, (refl, (refl, tt)))); end = refl }, (47, record { has = (refl, (refl, (refl, tt))); end = refl }, refl))); end = refl; handler = (52, (50, record { has = (refl, (refl, tt)); end = refl }, (52, record { has = (refl, (refl, tt)); end = refl }, refl)), record { has = (refl, tt); end = refl }, refl, refl, refl); start = refl; locals = refl; words = refl; tree = refl; frame = refl; deadline = refl; released = (refl, refl, refl) }, (63, record { behind = 62; body = (55, record { has = (refl, (refl, tt)); end = refl }, (62, (58, 61, record { has = (refl, (refl, (refl, tt))); end = refl }, refl, (61, record { has = (refl, (refl, tt)); end = refl }, refl), refl, refl), refl)); end = refl; handler = (refl, refl, refl, refl); start = refl; locals = refl; words = refl; tree = refl; frame = refl; deadline = refl; released = (refl, refl, refl) }, (72, record { behind = 71; body = (65, record { has = (refl, (refl, tt)); end = refl }, (71, (67, 70, record { has = (refl, (refl, tt)); end = refl }, refl, (70, record { has = (refl, (refl, tt)); end = refl }, refl), refl, refl), refl)); end = refl; handler = (refl, refl, refl, refl); start = refl; locals = refl; words = refl; tree = refl; frame = refl; deadline = refl; released = (refl, refl, refl) }, (80, record { behind = 76; body = (74, record { has = (refl, (refl, tt)); end = refl }, (76, record { has = (refl, (refl, tt)); end = refl }, refl)); end = refl; handler = (79, (79, record { has = (refl, (refl, tt)); end = refl }, refl), record { has = (refl, tt); end = refl }, refl, refl, refl); start = refl; locals = refl; words = refl; tree = refl; frame = refl; deadline = refl; released = (refl, refl, refl) }, (97, record { behind = 96; body = (82, record { has = (refl, (refl, tt)); end = refl }, (96, (91, (refl, (refl, (refl, tt))), (91, record { has = (refl, (refl, (refl, (refl, (refl, (refl, tt)))))); end = refl }, refl), (refl, (refl, (refl, (refl, (refl, tt))))), refl), refl)); end = refl; handler = (refl, refl, refl, refl); start = refl; locals = refl; words = refl; tree = refl; frame = refl; deadline = refl; released = (refl, refl, refl) }, (103, record { behind = 102; body = (100, record { has = (refl, (refl, (refl, tt))); end = refl }, (102, record { has = (refl, (refl, tt)); end = refl }, refl)); end = refl; handler = (refl, refl, refl, refl); start = refl; locals = refl; words = refl; tree = refl; frame = refl; deadline = refl; released = (refl, refl, refl) }, refl))))));
  monitor_words = (refl, refl, (refl, refl, tt));
  condition_table = refl;
  device_table = refl;
}
