-- What is lent, as the definitions speak of it.
use Rattle.definition.specs.declared.lent.LentTables.{LentTables}
use Rattle.definition.specs.Model.{Tables, tables_from}

abbrev pub tables_in : LentTables → Tables
tables_in t =
    tables_from t.gconsts.now t.means_invvars_t.now t.inv_vars_t.now t.sigma_inv_m.now t.u.now t.lda_t.now t.lda_offset.now t.global_mean_stats.now
