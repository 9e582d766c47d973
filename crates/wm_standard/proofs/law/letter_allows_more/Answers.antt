use Rattle.wm_standard.proofs.ByTheLetter.{letter-allows-more}
use Rattle.wm_standard.proofs.law.letter_allows_more.Goals as goal

pub returns : goal.returns
returns c = letter-allows-more
