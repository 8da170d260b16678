use Rattle.std.proofs.Common.{vec_len}
use Rattle.replay.proofs.claims.Claims.settle_all.Given as goal

abbrev pub decreases-loop-claim : goal.decreases-loop-claim
decreases-loop-claim l = vec_len l.claims
