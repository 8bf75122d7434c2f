-- What a step reads beside the message: the setting, the state, and (`Brought` of src/) what its turn brings.
use Rattle.std.specs.Prelude.{ℕ, List, Option}
use Rattle.doip_json.specs.Value.{Value}
use Rattle.acl_core.specs.Known.{Known}
use Rattle.ext_ops.specs.Offered.{Offered}
use Rattle.journal_core.specs.declared.journal.Room.{Room}
use Rattle.repo_state.specs.Contents.{Contents}
use Rattle.repo_step.specs.declared.config.Config.{Config}
use Rattle.repo_step.specs.Information.{information}

-- how the repository is set up, the same for a whole history
pub record Setting : Type 0 where
  pub service : List ℕ
  pub prefix : List ℕ
  pub address : List ℕ
  pub port : ℕ
  pub accounts : Known
  pub extensions : Offered

-- what contracts see of a configuration, and what the extensions beside it offer
abbrev pub setting_of : Config → Offered → Setting
setting_of config extensions = record {
  service = config.service;
  prefix = config.prefix;
  address = config.address;
  port = config.port;
  accounts = config.accounts;
  extensions = extensions;
}

-- what the repository holds, and how much of an area is used, if there is one
pub record State : Type 0 where
  pub contents : Contents
  pub room : Option Room

-- a state of these parts
abbrev pub state : Contents → Option Room → State
state contents room = record { contents = contents; room = room }

-- the service's information, which is the output of Hello
abbrev pub information_of : Setting → Value
information_of setting = information setting.service setting.address setting.port
