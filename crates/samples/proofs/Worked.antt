-- The definitions that a claim about given bytes is worked out with: to unfold `reading` or `drawing` is to unfold every definition that
-- its own line names, so that a claim names one of the two.
use Rattle.basics.specs.Bytes.{same_bytes, le16, le_number}
use Rattle.basics.specs.Vr.{listed, form_of}
use Rattle.dataset.specs.Header.{when, header_by, delimiter_by, nested_by, defined_by, long_by, typed_at, tagged_at, sized_by, member_at}
use Rattle.dataset.specs.Reading.{level, value_run, reading_of}
use Rattle.dataset.specs.Tree.{rows_of}
use Rattle.value.specs.Text.{values_of, trim_start, trim_end}
use Rattle.value.specs.Words.{word_at, is_word, is_uid, function_of}
use Rattle.value.specs.Number.{us_of, us_values, ss_of, digits_of, signed_by, whole_of, integer_of, exact_of, exponent_of, end_of, size_of}
use Rattle.value.specs.Number.{decimal_of, all}
use Rattle.value.specs.Number.{all_decimals, all_widths}
use Rattle.node.specs.Nodes.{nodes_of, members, members_by}
use Rattle.node.specs.Find.{find, of_vr, filled, has}
use Rattle.element.specs.Elements.{one_item, the_item, items_in, every, some, function_in}
use Rattle.element.specs.Frames.{frames_of, shared_item, frame_items, mask_items, operation_is}
use Rattle.shift.specs.Shift.{moves_of}
use Rattle.verdict.specs.Verdict.{per_frame}
use Rattle.rules.specs.Root.{is_xa, is_xrf, image_type_is, is_image_type, planes_are, photometric_is, bits_fit, lossy_is, is_original, rule1, rule2}
use Rattle.rules.specs.Root.{rule3, rule4, rule5, rule6, rule7, rule8, rule9, rule10, rule11, rule12, rule13, rule14, rule15, rule16}
use Rattle.rules.specs.Root.{rule17, rule18, rule19, rule20, rule21, rule22, rule23, rule24, rule25, rule26}
use Rattle.rules.specs.Frame.{is_shared, repeats_shared, item27, item28, item29, is_window, has_window, is_voi, item30, item37, rule27, rule28}
use Rattle.rules.specs.Frame.{rule29, rule30, rule37}
use Rattle.rules.specs.Mask.{is_operation, is_mask, range_fits, all_frames, are_mask_frames, average_fits, averages_fit, is_offset, offset_fits}
use Rattle.rules.specs.Mask.{shift_fits, has_shift_group, any_shift, rule31, rule32, rule33, rule34, rule35, rule36}
use Rattle.rules.specs.Pixels.{is_pixel_vr, is_pixel_data, rule38}
use Rattle.rules.specs.Intensity.{item39, rule39}
use Rattle.rules.specs.All.{rule_list, rule_at}
use Rattle.conformance.specs.Judging.{first_frame, frame_count, lowest, first_broken, judge_of}
use Rattle.window.specs.Window.{full_window, level_of, shade_of}
use Rattle.pixel.specs.Pixel.{is_frame, sample_at, sum_at, average_of, mask_at, place_of, rest_of, neighbour_of, are_inside, blend_of}
use Rattle.pixel.specs.Pixel.{blended_at}
use Rattle.steps.specs.Given.{collect}
use Rattle.steps.specs.Steps.{geometry_of, pixels_of, group_for, range_holds, first_holding, applying_to, average_frames, offset_of, tid_frame}
use Rattle.steps.specs.Steps.{shift_for, moves_for, mask_by, mask_for, window_in, window_for, inverse_of, native_cell, masked_cell, are_frames}
use Rattle.steps.specs.Steps.{picture_by, steps_of}
use Rattle.display.specs.Show.{picture_of, accepted_answer, show_of, image_of}

-- From bytes to rows.
unfoldable pub reading : Unit {0}
unfolding
    le16
    listed form_of
    when header_by delimiter_by nested_by defined_by long_by typed_at tagged_at sized_by member_at
    level value_run reading_of
    rows_of
reading = tt

-- From bytes to an image: judging and all steps.
unfoldable pub drawing : Unit {0}
unfolding
    reading
    same_bytes values_of trim_start trim_end
    word_at is_word is_uid function_of
    us_of us_values ss_of digits_of signed_by whole_of integer_of exact_of exponent_of end_of size_of decimal_of all all_decimals all_widths
    nodes_of members members_by
    find of_vr filled has
    one_item the_item items_in every some function_in
    frames_of shared_item frame_items mask_items
    moves_of
    per_frame
    is_xa is_xrf image_type_is is_image_type planes_are photometric_is bits_fit lossy_is is_original rule1 rule2 rule3 rule4 rule5 rule6 rule7 rule8
    rule9 rule10 rule11 rule12 rule13 rule14 rule15 rule16 rule17 rule18 rule19 rule20 rule21 rule22 rule23 rule24 rule25 rule26
    is_shared repeats_shared item27 item28 item29 is_window has_window is_voi item30 item37 rule27 rule28 rule29 rule30 rule37
    operation_is is_operation is_mask range_fits all_frames are_mask_frames average_fits averages_fit is_offset offset_fits shift_fits has_shift_group
    any_shift rule31 rule32 rule33 rule34 rule35 rule36
    is_pixel_vr is_pixel_data rule38
    item39 rule39
    rule_list rule_at
    first_frame frame_count lowest first_broken judge_of
    full_window level_of shade_of
    le_number is_frame sample_at sum_at average_of mask_at place_of rest_of neighbour_of are_inside blend_of blended_at
    collect
    geometry_of pixels_of group_for range_holds first_holding applying_to average_frames offset_of tid_frame shift_for moves_for mask_by mask_for
    window_in window_for inverse_of native_cell masked_cell are_frames picture_by steps_of
    picture_of accepted_answer show_of image_of
drawing = tt
