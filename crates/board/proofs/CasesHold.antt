-- The marked cases of document 01: every row of the table is a board that keeps the rules of the file, and
-- its verdict is true. The idea: a test of one row, which computes; a law that a row which passes it is true;
-- and the test of the whole table at once.
use mathlib.Core.Path.{◌≡◌, refl}
use mathlib.Core.Bool.{Bool, true, not, ◌&&◌}
use Rattle.orders.specs.Lists.{Mem, all}
use Rattle.orders.specs.Criterion.{is_red}
use Rattle.orders.proofs.Tests.{and_true, not_true}
use Rattle.orders.proofs.Lists.{all_mem}
use Rattle.orders.proofs.Checked.{failing, failing_is}
use Rattle.orders.proofs.Fact.{fact}
use Rattle.board.specs.View.{View}
use Rattle.board.specs.Good.{records_fit}
use Rattle.board.specs.Permitted.{held_in, roles_in}
use Rattle.board.specs.Green.{duties_of, world_of}
use Rattle.board.specs.Cases.{Verdict, green, red, Says, Row, cases}
use Rattle.board.proofs.PoolLaws.{duties_pool}

-- ---- the test of one row

abbrev says : View → Verdict → Bool
says v green = not (is_red (duties_of v) (held_in v.holdings) v.duties)
says v (red serials) = failing (world_of v) (held_in v.holdings) v.duties serials

abbrev test : Row → Bool
test row = records_fit row.board && says row.board row.verdict

-- what passes the test is true
says_is : (v : View) → records_fit v ≡ true → (verdict : Verdict) → says v verdict ≡ true → Says v verdict
says_is v fit green e =
    (fact (duties_of v) (held_in v.holdings) v.duties (duties_pool v fit)).decided.1
    (not_true (is_red (duties_of v) (held_in v.holdings) v.duties) e)
says_is v fit (red serials) e =
    failing_is (world_of v) (held_in v.holdings) v.duties (duties_pool v fit) serials e

test_is : (row : Row) → test row ≡ true → (records_fit row.board ≡ true) × Says row.board row.verdict
test_is row e =
    let (fit, said) = and_true (records_fit row.board) (says row.board row.verdict) e in
    (fit, says_is row.board fit row.verdict said)

-- ---- the whole table

every_test : all test cases ≡ true
unfolding roles_in
every_test = refl

-- The marked cases.
pub cases_hold :
    (row : Row) → Mem row cases → (records_fit row.board ≡ true) × Says row.board row.verdict
cases_hold row m = test_is row (all_mem test {l = cases} every_test m)
