mod Unread
mod Noting
mod Watching
mod Drawing
