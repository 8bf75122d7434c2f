-- What a turn of the step is made of.
use Rattle.ext_ops.specs.Offered.{Offered}
use Rattle.repo_step.specs.declared.turn.Turn.{Turn}
use Rattle.repo_step.specs.Setting.{Setting, State, setting_of, state}

-- the setting, with extensions that offer this
abbrev pub setting_in : Turn → Offered → Setting
setting_in t extensions = setting_of t.config.now extensions

-- the state before the turn
abbrev pub state_in : Turn → State
state_in t = state t.table.now.contents t.room
