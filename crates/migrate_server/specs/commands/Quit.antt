-- The command `quit`: it is never refused, and changes nothing. What follows it isn't read.
use Rattle.reply_json.specs.declared.reply.Reply.{Reply}
use Rattle.reply_json.specs.declared.reply.Reply.TheVariants.{Done}

abbrev pub quit_reply : Reply
quit_reply = Done
