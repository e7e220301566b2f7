-- The limits of document 01, section Numbers, stated once for the definitions. In code they are the constants
-- of Board.
use Rattle.std.specs.Prelude.{ℕ}

abbrev pub max_users : ℕ
max_users = 64

abbrev pub max_roles : ℕ
max_roles = 32

abbrev pub max_permissions : ℕ
max_permissions = 512

abbrev pub max_rules : ℕ
max_rules = 64

abbrev pub max_duties : ℕ
max_duties = 128

-- the next serial is at most this, and every serial is below the next one
abbrev pub max_next : ℕ
max_next = 4294967295

-- actions and objects are below these
abbrev pub actions : ℕ
actions = 64

abbrev pub objects : ℕ
objects = 256
