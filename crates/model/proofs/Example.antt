-- The worked example, by computation.
use Rattle.std.proofs.Common.{refl}
use Rattle.model.specs.Mail.{same, in_bytes, line_of, after_line, head_lines, starts_with, holds, no_blanks, holds_for, acted, all_acted, ruled, fate}
use Rattle.model.specs.House.{test_spelled, act_spelled, person_at, set_person, box_of, set_box, known_boxes, put_all, way_at, set_way, pass_on, deliver, letter_of, marks_bits, marked_so, turn, house_at, set_house, set_taken, come, pushed}
use Rattle.model.specs.Run.{so_many}
use Rattle.model.specs.Example.{TwoIslands, after, seen, all_after, all_seen}

pub two_islands : TwoIslands
unfolding same in_bytes line_of after_line head_lines starts_with holds no_blanks holds_for acted all_acted ruled fate test_spelled act_spelled person_at set_person box_of set_box known_boxes put_all way_at set_way pass_on deliver letter_of marks_bits marked_so turn house_at set_house set_taken come pushed so_many after seen all_after all_seen
two_islands = record { rows = refl; weight_0 = refl; weight_1 = refl; broken_off = refl; broken_end = refl }
