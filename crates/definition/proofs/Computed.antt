-- `unfolding computed` opens every definition, so that a closed call computes. Written by tools/computed.
use lib.Ieee.{add, sub, mul, div, neg, lt, le, eq, ne, is_nan, of_int, of_bits, to_bits, round}
use Rattle.loops.specs.Loop.{iter, leave}
use Rattle.loops.specs.Lists.{build, flat, those, any_of, all_of, over}
use Rattle.loops.specs.Refusal.{first_of}
use Rattle.loops.specs.Ring.{place, put}
use Rattle.floats.specs.Narrow.{narrowed}
use Rattle.floats.specs.Sqrt.{root_by, twice_root, square_root}
use Rattle.floats.specs.Ln.{chained, ln_sum, ln_of}
use Rattle.floats.specs.Exp.{series, squares, exp_of}
use Rattle.floats.specs.Extremes.{larger, smaller, absolute}
use Rattle.floats.specs.Decimal.{scaled}
use Rattle.definition.specs.Options.{options_in_range, dims_in_range, dims_agree}
use Rattle.definition.specs.Reader.{times, bytes, run, here, little_endian, numbers, kept, floats}
use Rattle.definition.specs.Kaldi.{binary, blank, word, token, dim, width_by, block_width, vector, skipped, matrix, packed_matrix, weights_heading, gmm, rowless, extractor_heading, single, alike, extractor, lda}
use Rattle.definition.specs.Text.{sign, digits, fraction, digits_value, signed_digits, exponent, to_nearest, number, space, stop, skip, row, line, byte, bracket, ending, cmvn_rows, cmvn}
use Rattle.definition.specs.Model.{gconst, transposed, packed, sigma_inv_m, quadratic_term, contents_agree, tables_of, tables_fit, judged, loading, load}
use Rattle.definition.specs.Views.{smoothed, windowed, cmvn_state, cmvn_frame, splice_at, raw_row, normalised_row, lda_frame}
use Rattle.definition.specs.Posteriors.{loglikes, insert, sorted, pruned, ranked, best_of, renormalised, select_posteriors, nan_count, min_post_for, weighed, unweighted, posteriors, nans_of}
use Rattle.definition.specs.Statistics.{add_diagonal, new_stats, rescaled, seen, sum_for, acc_linear, acc_quadratic, acc}
use Rattle.definition.specs.Solve.{dot, sp_mat_vec, less_products, cell, factor, forward, backward, solved_or, begun, turn, linear_cgd, prior_vector, get_ivector}
use Rattle.definition.specs.Changes.{insert_change, changed, reached, merged_from, merged, batch}
use Rattle.definition.specs.Estimate.{entries, nans_over, accumulated, updated}
use Rattle.definition.specs.Machine.{all_frames, frames_held, rows_held, frames_ready, forgotten, longest_from, push_tests, change_tests, window_tests, fetch_tests, not_finite, fresh, fetched, caught_up, nans_met, does, told_by, answer, machine_after, answers_from, answers}
use Rattle.definition.specs.Stream.{record_sound, info_sound, same_tables, stream_scratch, rooms_fit, new_refusal, rising, breaks, is_foreign, same_rings, same_rooms}
use Rattle.definition.specs.Silence.{info_at, table_in, segments, same_phone, marked, traced, before, carried, walked, weighted, decoder_frames, input_frame, delta_weights, settings_refusal, new_table, active, table_broken, traceback_tests, asked, asked_table, delta_tests, compute_current_traceback, get_delta_weights, silence_answer}

unfoldable pub computed : Unit {0}
unfolding add sub mul div neg lt le eq ne is_nan of_int of_bits to_bits round iter leave build flat those any_of all_of over first_of place put
    narrowed root_by twice_root square_root chained ln_sum ln_of series squares exp_of larger smaller absolute scaled options_in_range dims_in_range
    dims_agree times bytes run here little_endian numbers kept floats binary blank word token dim width_by block_width vector skipped matrix
    packed_matrix weights_heading gmm rowless extractor_heading single alike extractor lda sign digits fraction digits_value signed_digits exponent
    to_nearest number space stop skip row line byte bracket ending cmvn_rows cmvn gconst transposed packed sigma_inv_m quadratic_term contents_agree
    tables_of tables_fit judged loading load smoothed windowed cmvn_state cmvn_frame splice_at raw_row normalised_row lda_frame loglikes insert sorted
    pruned ranked best_of renormalised select_posteriors nan_count min_post_for weighed unweighted posteriors nans_of add_diagonal new_stats rescaled
    seen sum_for acc_linear acc_quadratic acc dot sp_mat_vec less_products cell factor forward backward solved_or begun turn linear_cgd prior_vector
    get_ivector insert_change changed reached merged_from merged batch entries nans_over accumulated updated all_frames frames_held rows_held
    frames_ready forgotten longest_from push_tests change_tests window_tests fetch_tests not_finite fresh fetched caught_up nans_met does told_by answer
    machine_after answers_from answers record_sound info_sound same_tables stream_scratch rooms_fit new_refusal rising breaks is_foreign same_rings
    same_rooms info_at table_in segments same_phone marked traced before carried walked weighted decoder_frames input_frame delta_weights
    settings_refusal new_table active table_broken traceback_tests asked asked_table delta_tests compute_current_traceback get_delta_weights
    silence_answer
computed = tt
