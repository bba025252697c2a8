-- `options_of` meets its contract: each option is what its key says in its text.
use Rattle.kaldi.proofs.SettingValues.{options_are}
use Rattle.kaldi.specs.Settings.{setting}
use Rattle.kaldi.proofs.settings.options_of.Goals as goal

pub returns : goal.returns
unfolding setting
returns c = options_are _ _ c.int_setting-left_context.ensures c.int_setting-right_context.ensures c.int_setting-cmn_window.ensures c.int_setting-global_frames.ensures c.float_setting-min_energy.ensures
