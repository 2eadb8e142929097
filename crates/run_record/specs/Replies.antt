-- The model of a reply: a reply of the definitions.
use Rattle.record_model.specs.Replies.{Reply}
use Rattle.record_model.specs.Replies as model
use Rattle.run_record.specs.declared.reply.Reply.{Reply as Declared}
use Rattle.run_record.specs.declared.reply.Reply.TheVariants.{Loaded, Dropped, Replaced, Listed, Found, Past, Merged, NoHeader, TooManyColumns, Unequal, NotUtf8, TooManyValues, FileFailed, FileMissing, FileTooLong, Repeated, Unknown, NoColumn, Full, QueryNotUtf8, QueryTooLarge, NothingToMerge, Later, Stale, NoMemory}

abbrev pub reply_of : Declared → Reply
reply_of (Loaded name columns members at) = model.Loaded name columns members at
reply_of (Dropped name at) = model.Dropped name at
reply_of (Replaced name columns members at) = model.Replaced name columns members at
reply_of (Listed tables at) = model.Listed tables at
reply_of (Found query rows reads probes layout) = model.Found query rows reads probes layout
reply_of (Past query rows asked at) = model.Past query rows asked at
reply_of (Merged layout parts tables at) = model.Merged layout parts tables at
reply_of NoHeader = model.NoHeader
reply_of (TooManyColumns got) = model.TooManyColumns got
reply_of (Unequal row want got) = model.Unequal row want got
reply_of (NotUtf8 row field) = model.NotUtf8 row field
reply_of (TooManyValues place) = model.TooManyValues place
reply_of FileFailed = model.FileFailed
reply_of FileMissing = model.FileMissing
reply_of FileTooLong = model.FileTooLong
reply_of (Repeated name at) = model.Repeated name at
reply_of (Unknown name at) = model.Unknown name at
reply_of (NoColumn name place at) = model.NoColumn name place at
reply_of (Full which count more at) = model.Full which count more at
reply_of (QueryNotUtf8 line) = model.QueryNotUtf8 line
reply_of QueryTooLarge = model.QueryTooLarge
reply_of (NothingToMerge layout) = model.NothingToMerge layout
reply_of (Later asked at) = model.Later asked at
reply_of (Stale layout gone at) = model.Stale layout gone at
reply_of NoMemory = model.NoMemory
