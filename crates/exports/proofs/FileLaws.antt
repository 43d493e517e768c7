-- The calls on PAM files through the C interface: their numbers are those of the first replies that apply. Assumes nothing.
use mathlib.Core.List.{List}
use Prim.Native.Nat.{ℕ}
use Rattle.replies.specs.Replies.{FirstReply}
use Rattle.replies.proofs.ReplyLaws.{reply_is}
use Rattle.pam.specs.Pam.{size_replies, read_replies, length_replies, write_replies}
use Rattle.exports.specs.Files.{badge_pam_size, badge_read_pam, badge_pam_length, badge_write_pam}

pub badge_size_first : (file : List ℕ) (width height : ℕ) → FirstReply (size_replies file) (badge_pam_size file width height).0
badge_size_first file width height = reply_is (size_replies file) tt

pub badge_read_first : (file pixels : List ℕ) (width height : ℕ) → FirstReply (read_replies file pixels) (badge_read_pam file pixels width height).0
badge_read_first file pixels width height = reply_is (read_replies file pixels) tt

pub badge_length_first : (width height was : ℕ) → FirstReply (length_replies width height) (badge_pam_length width height was).0
badge_length_first width height was = reply_is (length_replies width height) tt

pub badge_write_first : (width height : ℕ) (pixels file : List ℕ)
    → FirstReply (write_replies width height pixels file) (badge_write_pam width height pixels file).0
badge_write_first width height pixels file = reply_is (write_replies width height pixels file) tt
