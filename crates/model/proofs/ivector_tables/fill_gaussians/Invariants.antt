-- The loop of `fill_gaussians`: the blocks of Gaussian i are next in both runs (Again.antt), and the tables of the first i stand in the rooms.
use Rattle.std.proofs.Common.{◌≡◌}
use Rattle.loops.specs.Lists.{flat, over}
use Rattle.kaldi.specs.Parts.{extractor_in}
use Rattle.model.specs.Inner.IvectorTables.{sigma_inv_m_at, quadratic_term_at}
use Rattle.model.proofs.Again.{MFrom, SigmaFrom}
use Rattle.model.proofs.ivector_tables.fill_gaussians.Given as goal

abbrev pub invariant-loop-i : goal.invariant-loop-i
invariant-loop-i l =
    record {
      feat_dim : l.next.feat_dim ≡ l.e.feat_dim;
      ivector_dim : l.next.ivector_dim ≡ l.e.ivector_dim;
      m_source : l.next.m.src ≡ l.e.m.src;
      sigma_source : l.next.sigma_inv.src ≡ l.e.sigma_inv.src;
      m_next : MFrom l.e.m.src.now l.e.num_gauss l.e.m.at l.i l.next.m.at;
      sigma_next : SigmaFrom l.e.sigma_inv.src.now l.e.num_gauss l.e.sigma_inv.at l.i l.next.sigma_inv.at;
      products : l.sigma_inv_m ≡ over (flat l.i (sigma_inv_m_at (extractor_in l.e))) l.initial.sigma_inv_m;
      terms : l.u ≡ over (flat l.i (quadratic_term_at (extractor_in l.e))) l.initial.u;
    }
