use Rattle.table_dicts.proofs.SettingLemmas.{scored}
use Rattle.table_dicts.proofs.setting.Setting.stands.Goals as goal

pub returns : goal.returns
returns c = scored c.requires
