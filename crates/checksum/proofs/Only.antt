-- No second answer fits the contracts of `hash` and `update`.
-- Assumes nothing.
use Rattle.answers.specs.OneAnswer.{OneAnswer}
use Rattle.checksum.proofs.hash.Kinds as hash-kinds
use Rattle.checksum.proofs.hash.Reads as hash
use Rattle.checksum.proofs.update.Kinds as update-kinds
use Rattle.checksum.proofs.update.Reads as update

pub hash_only : OneAnswer 1 hash-kinds.ps hash-kinds.r hash.Post
hash_only κs args r s x y hr hs = cc

pub update_only : OneAnswer 1 update-kinds.ps update-kinds.r update.Post
update_only κs args r s x y hr hs = cc
