use Rattle.logexp.proofs.PowerTest.{power_test}
use Rattle.logexp.proofs.laws.power_test_stands.Goals as goal

pub returns : goal.returns
returns c = power_test
