-- `kept` meets its contract: what the tests of the record and the tables say bounds the sizes and the parts.
use mathlib.Core.Path.{sym}
use native.Mathlib.Omega.{arith}
use lib.Seq.{length-take-le}
use Rattle.definition.specs.Lent.{tables_in}
use Rattle.stream.proofs.Rooms.{Sized, sized}
use Rattle.stream.proofs.ivector_update.kept.Goals.{Start}
use Rattle.stream.proofs.ivector_update.kept.Goals as goal

sizes : (c : Start) → Sized c.args.info (tables_in c.args.tables)
sizes c = sized c.args.info (tables_in c.args.tables) c.requires.sound c.requires.fit

pub overflow_add-row : goal.overflow_add-row
overflow_add-row c = let x = sizes (goal.at.overflow_add-row c).Start in omega (arith, x.dims_are.base_is)

pub overflow_mul-cells : goal.overflow_mul-cells
overflow_mul-cells c = let x = sizes (goal.at.overflow_mul-cells c).Start in omega (arith, x.products_are.gauss_feat)

pub overflow_mul-sigma_cells : goal.overflow_mul-sigma_cells
overflow_mul-sigma_cells c = let x = sizes (goal.at.overflow_mul-sigma_cells c).Start in omega (arith, x.products_are.ext_feat)

pub overflow_mul-sigma_cells-2 : goal.overflow_mul-sigma_cells-2
overflow_mul-sigma_cells-2 c = let x = sizes (goal.at.overflow_mul-sigma_cells-2 c).Start in omega (arith, x.products_are.ext_feat_ivector)

pub overflow_add-u_cells : goal.overflow_add-u_cells
overflow_add-u_cells c = let x = sizes (goal.at.overflow_add-u_cells c).Start in omega (arith, x.dims_are.ivector_is)

pub overflow_mul-u_cells : goal.overflow_mul-u_cells
overflow_mul-u_cells c = let x = sizes (goal.at.overflow_mul-u_cells c).Start in omega (arith, x.products_are.ivector_next)

pub overflow_mul-u_cells-2 : goal.overflow_mul-u_cells-2
overflow_mul-u_cells-2 c = let x = sizes (goal.at.overflow_mul-u_cells-2 c).Start in omega (arith, x.products_are.ext_triangle)

pub overflow_add-lda_cells : goal.overflow_add-lda_cells
overflow_add-lda_cells c = let x = sizes (goal.at.overflow_add-lda_cells c).Start in omega (arith, x.options_are.left_is)

pub overflow_add-lda_cells-2 : goal.overflow_add-lda_cells-2
overflow_add-lda_cells-2 c = let x = sizes (goal.at.overflow_add-lda_cells-2 c).Start in omega (arith, x.options_are.left_is, x.options_are.right_is)

pub overflow_mul-lda_cells : goal.overflow_mul-lda_cells
overflow_mul-lda_cells c = let x = sizes (goal.at.overflow_mul-lda_cells c).Start in omega (arith, x.spliced_is.spliced_is)

pub overflow_mul-lda_cells-2 : goal.overflow_mul-lda_cells-2
overflow_mul-lda_cells-2 c = let x = sizes (goal.at.overflow_mul-lda_cells-2 c).Start in omega (arith, x.spliced_is.spliced_feat)

pub slice_bounds-result-end : goal.slice_bounds-result-end
slice_bounds-result-end c = let x = sizes (goal.at.slice_bounds-result-end c).Start in sym (length-take-le _ _ x.tables_fit_is.gconsts_fit)

pub slice_bounds-result-end-2 : goal.slice_bounds-result-end-2
slice_bounds-result-end-2 c = let x = sizes (goal.at.slice_bounds-result-end-2 c).Start in sym (length-take-le _ _ x.tables_fit_is.means_fit)

pub slice_bounds-result-end-3 : goal.slice_bounds-result-end-3
slice_bounds-result-end-3 c = let x = sizes (goal.at.slice_bounds-result-end-3 c).Start in sym (length-take-le _ _ x.tables_fit_is.vars_fit)

pub slice_bounds-result-end-4 : goal.slice_bounds-result-end-4
slice_bounds-result-end-4 c = let x = sizes (goal.at.slice_bounds-result-end-4 c).Start in sym (length-take-le _ _ x.tables_fit_is.sigma_fits)

pub slice_bounds-result-end-5 : goal.slice_bounds-result-end-5
slice_bounds-result-end-5 c = let x = sizes (goal.at.slice_bounds-result-end-5 c).Start in sym (length-take-le _ _ x.tables_fit_is.u_fits)

pub slice_bounds-result-end-6 : goal.slice_bounds-result-end-6
slice_bounds-result-end-6 c = let x = sizes (goal.at.slice_bounds-result-end-6 c).Start in sym (length-take-le _ _ x.tables_fit_is.lda_fits)

pub slice_bounds-result-end-7 : goal.slice_bounds-result-end-7
slice_bounds-result-end-7 c = let x = sizes (goal.at.slice_bounds-result-end-7 c).Start in sym (length-take-le _ _ x.tables_fit_is.offset_fits)

pub slice_bounds-result-end-8 : goal.slice_bounds-result-end-8
slice_bounds-result-end-8 c = let x = sizes (goal.at.slice_bounds-result-end-8 c).Start in sym (length-take-le _ _ x.tables_fit_is.global_fits)
