-- The parts of a file, as the code goes through them.
use Rattle.std.specs.Prelude.{◌≡◌, List, ℕ, ◌≤◌, length}
use Rattle.board.specs.declared.Counts.{Counts}
use Rattle.layout.specs.Layout.{counts_of, total_of}
use Rattle.file.specs.declared.parts.Part.{Part}
use Rattle.file.specs.declared.parts.Part.TheVariants.{Holdings, Permissions, Rules, Duties}
use Rattle.file.specs.Records.{holding_fault, permission_fault, rule_fault, duty_fault}

-- these are the header's counts, and the file goes on to where its last part ends
abbrev pub Complete : List ℕ → Counts → Type 0
Complete s n = (n ≡ counts_of s) × (total_of n ≤ length s)

-- how many records a part has
abbrev pub size_of : Counts → Part → ℕ
size_of n Holdings = n.users
size_of n Permissions = n.permissions
size_of n Rules = n.rules
size_of n Duties = n.duties

-- the fault of one of them
abbrev pub fault_at : List ℕ → Part → ℕ → ℕ
fault_at s Holdings i = holding_fault s i
fault_at s Permissions i = permission_fault s i
fault_at s Rules i = rule_fault s i
fault_at s Duties i = duty_fault s i
