-- Every trial of the table holds, and document 01's sample lists as it says.
-- Assumes nothing.
use mathlib.Core.Path.{◌≡◌, refl}
use lib.Dec.{T}
use Rattle.answers.specs.Answers.{accepted}
use Rattle.fields.specs.Numbers.{field, bytes_of, aligned}
use Rattle.checksum.specs.Catalogue.{taken, step, steps, byte, crc_from, crc16}
use Rattle.entry.specs.Words.{version1, mark_from, word_of, word_mark, word_namespace, word_kind}
use Rattle.entry.specs.Layout.{head_length, length_of, placed, entry_at, agrees, intact, verifies}
use Rattle.append.specs.Bytes.{head_of, covered_of, encoded}
use Rattle.scan.specs.Walk.{trial, walk_lines, walk_from, walk}
use Rattle.scan.specs.Listing.{list_most, list}
use Rattle.tail.specs.Tail.{nonzero_to, used_bound, durable}
use Rattle.tracker.specs.State.{joined, inserted}
use Rattle.tracker.specs.Sound.{sound, shard_sound}
use Rattle.tracker.specs.Reserving.{reserve_tests, reserved}
use Rattle.tracker.specs.Recording.{record_tests, recorded}
use Rattle.tracker.specs.Finishing.{matches, abandoned, completed}
use Rattle.tracker.specs.Least.{before, lesser_of, step_of, least_of}
use Rattle.tracker.specs.Checkpoints.{all_empty, reached_of}
use Rattle.trials.specs.Table.{all, trials}
use Rattle.trials.specs.Sample.{sample, sample_listing}

pub all_hold : T (all trials)
unfolding trials field bytes_of aligned taken step steps byte crc_from crc16 mark_from word_of word_mark word_namespace word_kind head_length length_of placed entry_at agrees intact verifies nonzero_to used_bound joined inserted sound shard_sound reserve_tests reserved record_tests recorded matches abandoned completed before lesser_of step_of least_of all_empty reached_of
all_hold = tt

pub sample_lists : list version1 sample (used_bound sample) 0 ≡ sample_listing
unfolding sample field bytes_of aligned taken step steps byte crc_from crc16 mark_from word_of word_mark word_namespace word_kind head_length length_of placed entry_at agrees intact verifies head_of covered_of encoded trial walk_lines walk_from walk list_most list nonzero_to used_bound
sample_lists = refl

pub sample_ends : durable 0 sample_listing ≡ accepted 48
unfolding durable placed head_length length_of aligned
sample_ends = refl
